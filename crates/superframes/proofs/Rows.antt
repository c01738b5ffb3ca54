-- "The lowest that applies is given": both lists follow the table's order.
-- Assumes nothing.
use Prim.Native.Nat.{ℕ}
use mathlib.Core.Path.{◌≡◌, refl}
use mathlib.Core.Bool.{true}
use Rattle.refusals.specs.Table.{the_order}
use Rattle.refusals.specs.Answer.{in_order}
use Rattle.record.specs.declared.types.Record.{Record}
use Rattle.modes.specs.Modes.{rate_at, pictures_at}
use Rattle.superframes.specs.Calls.{bits_refusals, write_refusals, with_high_rate}

pub bits_rows_in_order : (mode info : ℕ) → in_order the_order (with_high_rate mode (bits_refusals (rate_at mode) (pictures_at mode) info)) ≡ true
bits_rows_in_order mode info = refl

pub write_rows_in_order : (mode : ℕ) (r : Record) → in_order the_order (with_high_rate mode (write_refusals (rate_at mode) (pictures_at mode) r)) ≡ true
write_rows_in_order mode r = refl
