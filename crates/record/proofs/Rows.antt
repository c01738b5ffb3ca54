-- "The lowest that applies is given": the record's list, of bits or of a record, follows the table's order.
-- Assumes nothing.
use mathlib.Core.Path.{◌≡◌, refl}
use mathlib.Core.Bool.{Bool, true}
use Rattle.refusals.specs.Table.{the_order}
use Rattle.refusals.specs.Answer.{in_order}
use Rattle.rates.specs.declared.types.Rate.{Rate}
use Rattle.record.specs.declared.types.Record.{Record}
use Rattle.record.specs.Calls.{record_refusals}

pub rows_in_order : (rate : Rate) (bad unused : Bool) (r : Record) → in_order the_order (record_refusals rate bad unused r) ≡ true
rows_in_order rate bad unused r = refl
