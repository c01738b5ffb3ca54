-- `modes::table::rate_of` meets its contract: 2, and else the rate in the mode's row.
-- Assumes nothing.
use mathlib.Core.Path.{◌≡◌}
use mathlib.Core.Bool.{Bool, true, false}
use Prim.Native.Nat.{ℕ}
use Rattle.std.specs.Prelude.{Err, Ok}
use Rattle.refusals.specs.declared.types.Refusal.TheVariants.{UnknownMode}
use Rattle.rates.specs.declared.types.Rate.{Rate}
use Rattle.modes.specs.Modes.{unknown, rate_at, rated_of}
use Rattle.modes.proofs.table.rate_of.Goals as goal

module _ (mode : ℕ) (past : Bool) (asked : past ≡ unknown mode) where
  no_mode : past ≡ true → Err UnknownMode ≡ rated_of mode
  unfolding rated_of
  no_mode e = rw (← asked, e)

  known : past ≡ false → (rate : Rate) → rate ≡ rate_at mode → Ok rate ≡ rated_of mode
  unfolding rated_of
  known e rate at = rw (at, ← asked, e)

pub returns-then-is_unknown : goal.returns-then-is_unknown
returns-then-is_unknown c = search no_mode

pub returns : goal.returns
returns c = search known
