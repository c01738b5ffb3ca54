-- `modes::packing::place_left` meets its contract: a place is left where a picture has the address to itself.
-- Assumes nothing.
use mathlib.Core.Path.{◌≡◌}
use Prim.Native.Nat.{ℕ, ◌+◌}
use native.Mathlib.Omega.{arith}
use borrow.Author.Tests.{lt-ltb}
use Rattle.modes.specs.AtRate.{place_left}
use Rattle.modes.proofs.packing.place_left.Goals as goal

module _ (last place : ℕ) where
  alone : last ≡ 0 → place ≡ place_left (last + 1) place
  alone e = rw e

  shared : (last ≡ 0 → ⊥) → 0 ≡ place_left (last + 1) place
  shared more = rw (lt-ltb 1 (last + 1) (omega arith))

pub returns-then-last-eq0 : goal.returns-then-last-eq0
returns-then-last-eq0 c = search alone

pub returns : goal.returns
returns c = search shared
