-- `round::sums::sum` meets its contract: it is the definition's own case, by the sign of the count.
-- Assumes nothing.
use mathlib.Core.Path.{◌≡◌}
use Prim.Native.Nat.{ℕ, ◌+◌, ◌-◌, ◌%◌, ◌^◌, ◌≤◌, ◌<◌}
use native.Mathlib.Nat.{mod-lt, le_of_lt}
use native.Mathlib.Numerals.{add-one}
use native.Mathlib.Omega.{arith}
use lib.IntN.{ℤ, pos, negsuc}
use mir.Syntax.{w32}
use mir.Val.{Fits}
use mir.Facts.{to_z-of_z}
use Rattle.round.specs.Round.{sum_of}
use Rattle.round.proofs.Counts.{below_zero, not_below_zero}
use Rattle.round.proofs.sums.sum.Goals as goal

module _ (last n k : ℕ) (z y : ℤ) where
  going_back : y ≡ negsuc k → y ≡ z → (n + (last + 1 - (k + 1) % (last + 1))) % (last + 1) ≡ sum_of (last + 1) n z
  unfolding sum_of
  going_back e same = rw (← same, e, add-one k)

  going_on : y ≡ pos k → y ≡ z → (n + k) % (last + 1) ≡ sum_of (last + 1) n z
  unfolding sum_of
  going_on e same = rw (← same, e)

-- a remainder by the day fits, since the day's last number does
fits_day : (last m : ℕ) → last < 2 ^ 32 → Fits w32 (m % (last + 1))
fits_day last m low =
    let some : 0 < last + 1 = omega arith in
    record { fits = omega (arith, mod-lt m some) }

rest_within : (last m : ℕ) → m % (last + 1) ≤ last + 1
rest_within last m =
    let some : 0 < last + 1 = omega arith in
    le_of_lt (mod-lt m some)

pub back_by-less-requires : goal.back_by-less-requires
back_by-less-requires c = search below_zero

pub overflow_sub-back : goal.overflow_sub-back
overflow_sub-back c = search rest_within

pub overflow_cast-result : goal.overflow_cast-result
overflow_cast-result c = search fits_day

pub returns-then-frames-lt0 : goal.returns-then-frames-lt0
returns-then-frames-lt0 c = search (going_back, to_z-of_z)

pub on_by-count-requires : goal.on_by-count-requires
on_by-count-requires c = search not_below_zero

pub overflow_cast-result-2 : goal.overflow_cast-result-2
overflow_cast-result-2 c = search fits_day

pub returns : goal.returns
returns c = search (going_on, to_z-of_z)
