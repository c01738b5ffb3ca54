-- "except that 13 comes straight after 2": the list of the call follows the table's order.
-- Assumes nothing.
use Rattle.std.proofs.Common.{◌≡◌, ℕ, true, List, refl}
use Rattle.refusals.specs.Table.{the_order}
use Rattle.refusals.specs.Answer.{in_order}
use Rattle.scribe.specs.declared.types.Scribe.{Scribe}
use Rattle.scribe.specs.Told.{tell_refusals}

pub tell_rows_in_order : (before : Scribe) (characters out : List ℕ) → in_order the_order (tell_refusals before characters out) ≡ true
tell_rows_in_order before characters out = refl
