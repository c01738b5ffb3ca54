-- The list of an address's refusals follows the table's order.
-- Assumes nothing.
use mathlib.Core.Path.{◌≡◌, refl}
use mathlib.Core.Bool.{Bool, true}
use Rattle.refusals.specs.Table.{the_order}
use Rattle.refusals.specs.Answer.{in_order}
use Rattle.rates.specs.declared.types.Rate.{Rate}
use Rattle.rates.specs.Refused.{address_refusals}

pub address_rows_in_order : (rate : Rate) (drop out skip unused : Bool) → in_order the_order (address_refusals rate drop out skip unused) ≡ true
address_rows_in_order rate drop out skip unused = refl
