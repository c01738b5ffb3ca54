-- `pictures::numbers::last_number` meets its contract: the day's count less one.
-- Assumes nothing.
use mathlib.Core.Path.{◌≡◌}
use Prim.Native.Nat.{ℕ, ◌+◌, ◌-◌, ◌*◌, ◌^◌, ◌<◌}
use mathlib.Core.Bool.{Bool}
use native.Mathlib.Omega.{arith}
use native.Mathlib.Nat.{mul-le-mul_left}
use borrow.Author.Rules.{rules}
use Rattle.rates.specs.declared.types.Rate.{Rate}
use Rattle.rates.specs.Rates.{frames_in_day}
use Rattle.rates.proofs.Sizes.{some_day}
use Rattle.pictures.specs.Pictures.{pictures_in_day}
use Rattle.pictures.proofs.Sizes.{day_fits}
use Rattle.pictures.proofs.numbers.last_number.Goals as goal

module _ (rate : Rate) (last day : ℕ) (drop : Bool) (whole : day ≡ frames_in_day rate drop) where
  fits : last < 256 → (last + 1) * day < 2 ^ 30
  fits few = omega (arith, day_fits rate (last + 1) day drop whole (omega arith))

  some : 0 < (last + 1) * day
  some = omega (arith, mul-le-mul_left (last + 1) (some_day rate day drop whole))

  and_one : last < 256 → ((last + 1) * day - 1 + 1 ≡ pictures_in_day rate (last + 1) drop) × ((last + 1) * day - 1 < 2 ^ 30)
  and_one few = (rw (← whole) (omega (arith, some)), omega (arith, fits few))

pub overflow_mul-result : goal.overflow_mul-result
overflow_mul-result c = omega (arith, fits c.args.counting.rate c.args.counting.last _ c.args.drop c.frames_in_day.ensures (search rules))

pub overflow_sub-result : goal.overflow_sub-result
overflow_sub-result c = search some

pub returns : goal.returns
returns c = and_one c.args.counting.rate c.args.counting.last _ c.args.drop c.frames_in_day.ensures (search rules)
