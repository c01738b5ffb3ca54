-- `superframes::bits::place_said` meets its contract: three bits as a number, or the upper two of them.
-- Assumes nothing.
use Prim.Native.Nat.{ℕ, ◌+◌, ◌*◌, ◌/◌}
use mathlib.Core.Path.{◌≡◌}
use mathlib.Core.Bool.{Bool, true, false}
use Rattle.rates.specs.declared.types.Flag.{Flag}
use Rattle.layout.specs.Flags.{bit_of}
use Rattle.superframes.specs.SubFrames.{two_bits, place_said}
use Rattle.superframes.proofs.bits.place_said.Goals as goal

module _
    (last : ℕ) (first second third : Flag) (a b c : ℕ) (one : a ≡ bit_of first) (two : b ≡ bit_of second) (three : c ≡ bit_of third)
    (enough : Bool) (asked : enough ≡ two_bits (last + 1)) where
  by_two : enough ≡ true → (4 * a + (2 * b + c)) / 2 ≡ place_said (last + 1) first second third
  by_two t = rw (one, two, three, ← asked, t)

  by_three : enough ≡ false → 4 * a + (2 * b + c) ≡ place_said (last + 1) first second third
  by_three f = rw (one, two, three, ← asked, f)

pub returns-then-has_two_bits : goal.returns-then-has_two_bits
returns-then-has_two_bits c = search by_two

pub returns : goal.returns
returns c = search by_three
