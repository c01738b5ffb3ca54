-- "The lowest that applies is given": the lists of both calls follow the table's order.
-- Assumes nothing.
use Prim.Native.Nat.{ℕ}
use mathlib.Core.Path.{◌≡◌, refl}
use mathlib.Core.Bool.{true}
use mathlib.Core.List.{List}
use Rattle.refusals.specs.Table.{the_order}
use Rattle.refusals.specs.Answer.{in_order}
use Rattle.record.specs.declared.types.Record.{Record}
use Rattle.vitc.specs.Calls.{read_refusals, written_rows}

pub read_rows_in_order : (mode : ℕ) (line : List ℕ) → in_order the_order (read_refusals mode line) ≡ true
read_rows_in_order mode line = refl

pub written_rows_in_order : (mode : ℕ) (r : Record) (start : ℕ) (run : List ℕ) → in_order the_order (written_rows mode r start run) ≡ true
written_rows_in_order mode r start run = refl
