-- "The lowest that applies is given": the lists of the calls follow the table's order.
-- Assumes nothing.
use Prim.Native.Nat.{ℕ}
use mathlib.Core.Path.{◌≡◌, refl}
use mathlib.Core.Bool.{true}
use mathlib.Core.List.{List}
use Rattle.refusals.specs.Table.{the_order}
use Rattle.refusals.specs.Answer.{in_order}
use Rattle.record.specs.declared.types.Record.{Record}
use Rattle.ltc.specs.Calls.{read_refusals, written_rows}

pub read_rows_in_order : (mode : ℕ) (word : List ℕ) → in_order the_order (read_refusals mode word) ≡ true
read_rows_in_order mode word = refl

pub written_rows_in_order : (mode : ℕ) (r : Record) (start : ℕ) (run : List ℕ) → in_order the_order (written_rows mode r start run) ≡ true
unfolding written_rows
written_rows_in_order mode r start run = refl
