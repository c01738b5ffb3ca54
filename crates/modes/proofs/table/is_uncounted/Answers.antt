-- `modes::table::is_uncounted` meets its contract: the constant is the length of both tables.
-- Assumes nothing.
use mathlib.Core.Path.{◌≡◌, refl}
use Prim.Native.Nat.{ℕ}
use lib.Dec.{leb}
use Rattle.modes.specs.Modes.{uncounted}
use Rattle.modes.proofs.table.is_uncounted.Goals as goal

past_the_tables : (mode : ℕ) → leb 11 mode ≡ uncounted mode
unfolding uncounted
past_the_tables mode = refl

pub returns : goal.returns
returns c = search past_the_tables
