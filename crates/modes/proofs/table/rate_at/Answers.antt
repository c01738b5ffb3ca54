-- `modes::table::rate_at` meets its contract: the rows of both tables, and past them what is said there.
-- Assumes nothing.
use mathlib.Core.Path.{◌≡◌}
use mathlib.Core.Bool.{true, false}
use Prim.Native.Nat.{ℕ}
use Rattle.rates.specs.declared.types.Rate.TheVariants.{At24, At25, At30}
use Rattle.modes.specs.Modes.{rate_at}
use Rattle.modes.proofs.InCode.{by24, by25, row_by_row}
use Rattle.modes.proofs.table.rate_at.Goals as goal

module _ (mode : ℕ) where
  at_24 : by24 mode ≡ true → At24 ≡ rate_at mode
  at_24 t = rw t at (row_by_row mode).0

  module _ (other : by24 mode ≡ false) where
    at_25 : by25 mode ≡ true → At25 ≡ rate_at mode
    at_25 t = rw (other, t) at (row_by_row mode).0

    at_30 : by25 mode ≡ false → At30 ≡ rate_at mode
    at_30 f = rw (other, f) at (row_by_row mode).0

pub returns-then-mode : goal.returns-then-mode
returns-then-mode c = search at_24

pub returns-then-mode-2 : goal.returns-then-mode-2
returns-then-mode-2 c = search at_25

pub returns : goal.returns
returns c = search at_30
