-- "The lowest that applies is given": the list of refusals follows the table's order.
-- Assumes nothing.
use Prim.Native.Nat.{ℕ}
use mathlib.Core.Path.{◌≡◌, refl}
use mathlib.Core.Bool.{true}
use Rattle.refusals.specs.Table.{the_order}
use Rattle.refusals.specs.Answer.{in_order}
use Rattle.polarity.specs.Heard.{heard_refusals}

pub heard_rows_in_order : (mode info : ℕ) → in_order the_order (heard_refusals mode info) ≡ true
heard_rows_in_order mode info = refl
