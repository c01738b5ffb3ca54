-- `modes::counting::number_of` meets its contract: 2, and else what is answered by the mode's row.
-- Assumes nothing.
use mathlib.Core.Path.{◌≡◌}
use Prim.Native.Nat.{ℕ, ◌+◌}
use Rattle.std.specs.Prelude.{Ok, Err, Result}
use Rattle.clock.specs.declared.types.DayFrame.{DayFrame}
use Rattle.refusals.specs.declared.types.Refusal.{Refusal}
use Rattle.rates.specs.declared.types.Flag.{Flag}
use Rattle.pictures.specs.declared.types.Picture.{Picture}
use Rattle.pictures.specs.Calls.{number_of}
use Rattle.pictures.specs.declared.types.Counting.{Counting}
use Rattle.refusals.proofs.Results.{passed_on}
use Rattle.modes.specs.Modes.{counting_of}
use Rattle.modes.specs.Calls.{number_in}
use Rattle.modes.proofs.InMode.{no_row, by_its_row}
use Rattle.modes.proofs.counting.number_of.Goals as goal

module _ (mode : ℕ) (drop : Flag) (p : Picture) (row : Result Counting Refusal) (asked : row ≡ counting_of mode) where
  no_mode : (r : Refusal) → row ≡ Err r → Err r ≡ number_in mode drop p
  unfolding number_in
  no_mode r e = no_row mode (λ rate pictures. number_of rate pictures drop p) row asked r e

  known : (own : Counting) → row ≡ Ok own → (given : Result DayFrame Refusal) → given ≡ number_of own.rate (own.last + 1) drop p → given ≡ number_in mode drop p
  unfolding number_in
  known own e given told = by_its_row mode (λ rate pictures. number_of rate pictures drop p) row asked own e given told

pub returns-in_err-counting_of : goal.returns-in_err-counting_of
returns-in_err-counting_of c = passed_on c.from_residual.ensures.1 (search (no_mode, c.in_err-counting_of.was))

pub returns : goal.returns
returns c = search (known, c.in_ok-counting_of.was)
