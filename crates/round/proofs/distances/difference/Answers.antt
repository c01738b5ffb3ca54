-- `round::distances::difference` meets its contract: the bits of a number not below 0 are the number's own, and `!` of n is -(n + 1).
-- Assumes nothing.
use mathlib.Core.Path.{◌≡◌, sym, ◌∙◌}
use Prim.Native.Nat.{ℕ, suc, ◌+◌, ◌-◌, ◌^◌, ◌≤◌, ◌<◌}
use native.Mathlib.Omega.{arith}
use lib.IntN.{sub_ℕ}
use mir.Syntax.{w64}
use mir.Val.{to_z}
use mir.Facts.{to_z_pos, to_z-neg}
use Rattle.round.proofs.Round.{ahead, behind}
use Rattle.round.proofs.distances.difference.Goals as goal

module _ (a b : ℕ) where
  less : a < b → b < 2 ^ 63 → to_z w64 (18446744073709551615 - (b - (a + 1))) ≡ sub_ℕ a b
  less h low =
      let bits : 18446744073709551615 - (b - (a + 1)) ≡ 2 ^ 64 - suc (b - suc a) = omega arith in
      rw bits (to_z-neg w64 (b - suc a) (omega arith) ∙ sym (behind a b h))

  more : b ≤ a → a < 2 ^ 63 → to_z w64 (a - b) ≡ sub_ℕ a b
  more h low = to_z_pos w64 (omega arith) ∙ sym (ahead a b h)

pub returns-then-a-b : goal.returns-then-a-b
returns-then-a-b c = search less

pub returns-else-a-b : goal.returns-else-a-b
returns-else-a-b c = search more
