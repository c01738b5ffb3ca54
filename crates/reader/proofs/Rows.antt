-- "except that 13 comes straight after 2": the lists of a step and a block follow the table's order.
-- Assumes nothing.
use Prim.Native.Nat.{ℕ}
use mathlib.Core.Path.{◌≡◌, refl}
use mathlib.Core.Bool.{true}
use Rattle.refusals.specs.Table.{the_order}
use Rattle.refusals.specs.Answer.{in_order}
use Rattle.register.specs.declared.types.Reader.{Reader}
use Rattle.reader.specs.Steps.{reader_refusals, feed_refusals}

pub block_rows_in_order : (reader : Reader) → in_order the_order (reader_refusals reader) ≡ true
block_rows_in_order reader = refl

pub step_rows_in_order : (reader : Reader) (element : ℕ) → in_order the_order (feed_refusals reader element) ≡ true
step_rows_in_order reader element = refl
