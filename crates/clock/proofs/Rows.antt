-- The list of a frame number's refusals follows the table's order.
-- Assumes nothing.
use Prim.Native.Nat.{ℕ}
use mathlib.Core.Path.{◌≡◌, refl}
use mathlib.Core.Bool.{true}
use Rattle.refusals.specs.Table.{the_order}
use Rattle.refusals.specs.Answer.{in_order}
use Rattle.rates.specs.declared.types.Rate.{Rate}
use Rattle.rates.specs.declared.types.Flag.{Flag}
use Rattle.clock.specs.Calls.{number_refusals}

pub number_rows_in_order : (rate : Rate) (drop : Flag) (n : ℕ) → in_order the_order (number_refusals rate drop n) ≡ true
number_rows_in_order rate drop n = refl
