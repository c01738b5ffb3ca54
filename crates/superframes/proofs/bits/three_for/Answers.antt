-- `superframes::bits::three_for` meets its contract: a place in three bits, or in the upper two of them.
-- Assumes nothing.
use Prim.Native.Nat.{ℕ, ◌+◌, ◌*◌}
use mathlib.Core.Path.{◌≡◌}
use mathlib.Core.Bool.{Bool, true, false}
use Rattle.superframes.specs.SubFrames.{two_bits, three_for}
use Rattle.superframes.proofs.bits.three_for.Goals as goal

module _ (last place : ℕ) (enough : Bool) (asked : enough ≡ two_bits (last + 1)) where
  by_two : enough ≡ true → 2 * place ≡ three_for (last + 1) place
  by_two t = rw (← asked, t)

  by_three : enough ≡ false → place ≡ three_for (last + 1) place
  by_three f = rw (← asked, f)

pub returns-then-has_two_bits : goal.returns-then-has_two_bits
returns-then-has_two_bits c = search by_two

pub returns : goal.returns
returns c = search by_three
