-- `pictures::numbers::between` meets its contract: the distance is told as it was measured, since it fits 64 bits, and 32.
-- Assumes nothing.
use mathlib.Core.Path.{◌≡◌, ◌∙◌}
use Prim.Native.Nat.{ℕ, ◌+◌, ◌^◌, ◌<◌}
use native.Mathlib.Omega.{arith}
use lib.IntN.{ℤ}
use mir.Syntax.{w32, w64}
use mir.Val.{SFits, to_z, of_z}
use mir.Facts.{to_z-of_z}
use borrow.Author.Rules.{rules}
use Rattle.round.specs.Round.{distance_of}
use Rattle.round.proofs.Sizes.{distance_small}
use Rattle.pictures.proofs.numbers.between.Goals as goal

narrow : (end m n : ℕ) (z : ℤ) → z ≡ distance_of (end + 1) m n → (end < 2 ^ 30) × (m < 2 ^ 30) × (n < 2 ^ 30) → SFits w32 z
narrow end m n z e small = rw e (distance_small (end + 1) m n (omega (arith, small.0)) small.1 small.2)

told : (z y : ℤ) → SFits w64 z → SFits w32 z → z ≡ y → to_z w32 (of_z w32 (to_z w64 (of_z w64 z))) ≡ y
told z y wide narrow e = rw (to_z-of_z wide) (to_z-of_z narrow) ∙ e

pub overflow_cast-result : goal.overflow_cast-result
overflow_cast-result c = search (narrow, rules)

pub returns : goal.returns
returns c = search (told, narrow, rules)
