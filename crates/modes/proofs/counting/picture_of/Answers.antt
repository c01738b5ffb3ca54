-- `modes::counting::picture_of` meets its contract: 2, and else what is answered by the mode's row.
-- Assumes nothing.
use mathlib.Core.Path.{◌≡◌}
use Prim.Native.Nat.{ℕ, ◌+◌}
use Rattle.std.specs.Prelude.{Ok, Err, Result}
use Rattle.pictures.specs.declared.types.Picture.{Picture}
use Rattle.refusals.specs.declared.types.Refusal.{Refusal}
use Rattle.rates.specs.declared.types.Flag.{Flag}
use Rattle.clock.specs.declared.types.DayFrame.{DayFrame}
use Rattle.pictures.specs.Calls.{picture_of}
use Rattle.pictures.specs.declared.types.Counting.{Counting}
use Rattle.refusals.proofs.Results.{passed_on}
use Rattle.modes.specs.Modes.{counting_of}
use Rattle.modes.specs.Calls.{picture_in}
use Rattle.modes.proofs.InMode.{no_row, by_its_row}
use Rattle.modes.proofs.counting.picture_of.Goals as goal

module _ (mode : ℕ) (drop : Flag) (n : DayFrame) (row : Result Counting Refusal) (asked : row ≡ counting_of mode) where
  no_mode : (r : Refusal) → row ≡ Err r → Err r ≡ picture_in mode drop n
  unfolding picture_in
  no_mode r e = no_row mode (λ rate pictures. picture_of rate pictures drop n) row asked r e

  known : (own : Counting) → row ≡ Ok own → (given : Result Picture Refusal) → given ≡ picture_of own.rate (own.last + 1) drop n → given ≡ picture_in mode drop n
  unfolding picture_in
  known own e given told = by_its_row mode (λ rate pictures. picture_of rate pictures drop n) row asked own e given told

pub returns-in_err-counting_of : goal.returns-in_err-counting_of
returns-in_err-counting_of c = passed_on c.from_residual.ensures.1 (search (no_mode, c.in_err-counting_of.was))

pub returns : goal.returns
returns c = search (known, c.in_ok-counting_of.was)
