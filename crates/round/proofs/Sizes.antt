-- A distance between numbers that are not too large fits 32 bits.
-- Assumes nothing.
use Prim.Native.Nat.{ℕ, ◌+◌, ◌/◌, ◌^◌, ◌<◌, ◌≤◌}
use mathlib.Core.Path.{◌≡◌, refl}
use mathlib.Core.Bool.{Bool, true, false}
use native.Mathlib.Omega.{arith}
use lib.Dec.{ltb, leb}
use lib.IntN.{sub_ℕ}
use mir.Syntax.{w32}
use mir.Val.{SFits}
use borrow.Author.Tests.{ltb-true, ltb-false}
use Rattle.round.specs.Round.{distance_of}
use Rattle.round.proofs.Round.{ahead, behind}

difference_small : (a b : ℕ) → a < 2 ^ 31 → b < 2 ^ 31 → SFits w32 (sub_ℕ a b)
difference_small a b low high = go (ltb a b) refl
  where
    go : (t : Bool) → ltb a b ≡ t → SFits w32 (sub_ℕ a b)
    go true t = rw (behind a b (ltb-true a b t)) (record { sfits = omega arith })
    go false t = rw (ahead a b (ltb-false a b t)) (record { sfits = omega arith })

pub distance_small : (day from to : ℕ) → day ≤ 2 ^ 30 → from < 2 ^ 30 → to < 2 ^ 30 → SFits w32 (distance_of day from to)
unfolding distance_of
distance_small day from to whole low high = go (ltb (to + day / 2) from) refl (leb (from + day / 2) to) refl
  where
    go : (l : Bool) → ltb (to + day / 2) from ≡ l → (m : Bool) → leb (from + day / 2) to ≡ m → SFits w32 (distance_of day from to)
    go true l m' m = rw l (difference_small (to + day) from (omega arith) (omega arith))
    go false l true m = rw (l, m) (difference_small to (from + day) (omega arith) (omega arith))
    go false l false m = rw (l, m) (difference_small to from (omega arith) (omega arith))
