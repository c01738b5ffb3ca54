-- `modes::table::is_unknown` meets its contract: the constant is the length of the table.
-- Assumes nothing.
use mathlib.Core.Path.{◌≡◌, refl}
use Prim.Native.Nat.{ℕ}
use lib.Dec.{leb}
use Rattle.modes.specs.Modes.{unknown}
use Rattle.modes.proofs.table.is_unknown.Goals as goal

past_the_table : (mode : ℕ) → leb 6 mode ≡ unknown mode
unfolding unknown
past_the_table mode = refl

pub returns : goal.returns
returns c = search past_the_table
