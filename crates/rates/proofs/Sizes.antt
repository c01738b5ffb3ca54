-- How large a rate's numbers are.
-- Assumes nothing.
use Prim.Native.Nat.{ℕ, ◌+◌, ◌-◌, ◌%◌, ◌≤◌, ◌<◌}
use mathlib.Core.Path.{◌≡◌, refl}
use mathlib.Core.Bool.{Bool, true, false}
use native.Mathlib.Omega.{arith}
use lib.Dec.{lit<, lit≤}
use Rattle.rates.specs.declared.types.Rate.{Rate}
use Rattle.rates.specs.declared.types.Rate.TheVariants.{At24, At25, At30}
use Rattle.rates.specs.Rates.{by_rate, frames_in_second, frames_in_day}

-- what is true of each of the three is true of the rate's own
pub of_the_rate : (P : ℕ → Type 0) (rate : Rate) {x y z : ℕ} → P x → P y → P z → P (by_rate rate x y z)
of_the_rate P At24 px py pz = px
of_the_rate P At25 px py pz = py
of_the_rate P At30 px py pz = pz

pub rate_small : (rate : Rate) → frames_in_second rate ≤ 30
rate_small rate = of_the_rate (λ (x : ℕ). x ≤ 30) rate (lit≤ tt) (lit≤ tt) (lit≤ tt)

pub some_rate : (rate : Rate) → 0 < frames_in_second rate
some_rate rate = of_the_rate (λ (x : ℕ). 0 < x) rate (lit< tt) (lit< tt) (lit< tt)

-- every rate counts at least 24 frames a second
pub rate_large : (rate : Rate) → 24 ≤ frames_in_second rate
rate_large rate = of_the_rate (λ (x : ℕ). 24 ≤ x) rate (lit≤ tt) (lit≤ tt) (lit≤ tt)

-- what is true of each of the four days is true of the rate's own
of_the_day : (P : ℕ → Type 0) (rate : Rate) (drop : Bool) → P 2073600 → P 2160000 → P 2589408 → P 2592000 → P (frames_in_day rate drop)
of_the_day P rate true at24 at25 at30drop at30 = of_the_rate P rate at24 at25 at30drop
of_the_day P rate false at24 at25 at30drop at30 = of_the_rate P rate at24 at25 at30

pub even_day : (rate : Rate) (drop : Bool) → frames_in_day rate drop % 2 ≡ 0
even_day rate drop = of_the_day (λ (x : ℕ). x % 2 ≡ 0) rate drop refl refl refl refl

module _ (rate : Rate) (day : ℕ) (drop : Bool) (whole : day ≡ frames_in_day rate drop) where
  pub day_small : day ≤ 2592000
  day_small = rw whole (of_the_day (λ (x : ℕ). x ≤ 2592000) rate drop (lit≤ tt) (lit≤ tt) (lit≤ tt) (lit≤ tt))

  pub some_day : 0 < day
  some_day = rw whole (of_the_day (λ (x : ℕ). 0 < x) rate drop (lit< tt) (lit< tt) (lit< tt) (lit< tt))

  -- a day's last number and one are the day
  pub last_and_one : day - 1 + 1 ≡ day
  last_and_one = let some = some_day in omega arith
