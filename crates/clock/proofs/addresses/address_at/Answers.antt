-- `clock::addresses::address_at` meets its contract: the face of the number's place at the rate's rate.
-- Assumes nothing.
use mathlib.Core.Path.{◌≡◌}
use mathlib.Core.Bool.{Bool}
use Prim.Native.Nat.{ℕ, ◌/◌, ◌%◌, ◌≤◌, ◌<◌}
use native.Mathlib.Nat.{mod-lt}
use native.Mathlib.Omega.{arith}
use mir.Syntax.{w8}
use mir.Val.{Fits}
use Rattle.rates.specs.declared.types.Rate.{Rate}
use Rattle.rates.specs.Rates.{frames_in_second}
use Rattle.clock.specs.Counting.{place_at, face_at, address_at}
use Rattle.rates.proofs.Sizes.{rate_large, rate_small, some_rate}
use Rattle.clock.proofs.Sizes.{place_at_small, hours_small}
use Rattle.clock.proofs.addresses.address_at.Goals as goal

module _ (rate : Rate) (fps : ℕ) (pace : fps ≡ frames_in_second rate) where
  some : 0 < fps
  some = rw pace (some_rate rate)

  frames_fit : (p : ℕ) → Fits w8 (p % fps)
  frames_fit p = let low : fps ≤ 30 = rw pace (rate_small rate) in record { fits = omega (arith, mod-lt p some) }

  hours_fit : (drop : Bool) (n p : ℕ) → n < 2592000 → p ≡ place_at drop n → Fits w8 (p / fps / 60 / 60)
  hours_fit drop n p low e =
      record { fits = hours_small fps p (rw pace (rate_large rate)) (rw e (place_at_small drop n low)) }

  faced : (drop : Bool) (n p : ℕ) → p ≡ place_at drop n → face_at fps p ≡ address_at (frames_in_second rate) drop n
  unfolding address_at
  faced drop n p e = rw (pace, e)

pub nonzero_div-second : goal.nonzero_div-second
nonzero_div-second c = search some

pub nonzero_rem-frames : goal.nonzero_rem-frames
nonzero_rem-frames c = search some

pub overflow_cast-frames : goal.overflow_cast-frames
overflow_cast-frames c = search frames_fit

pub overflow_cast-hours : goal.overflow_cast-hours
overflow_cast-hours c = search hours_fit

pub returns : goal.returns
returns c = search faced
