-- `modes::counting::add` meets its contract: 2, and else what is answered by the mode's row.
-- Assumes nothing.
use mathlib.Core.Path.{◌≡◌, ap, ◌∙◌}
use Prim.Native.Nat.{ℕ, ◌+◌}
use lib.IntN.{ℤ}
use mir.Facts.{to_z-of_z}
use Rattle.std.specs.Prelude.{Ok, Err, Result}
use Rattle.refusals.specs.declared.types.Refusal.{Refusal}
use Rattle.rates.specs.declared.types.Flag.{Flag}
use Rattle.pictures.specs.declared.types.Picture.{Picture}
use Rattle.pictures.specs.Calls.{plus_of}
use Rattle.pictures.specs.declared.types.Counting.{Counting}
use Rattle.refusals.proofs.Results.{passed_on}
use Rattle.modes.specs.Modes.{counting_of}
use Rattle.modes.specs.Calls.{plus_in}
use Rattle.modes.proofs.InMode.{no_row, by_its_row}
use Rattle.modes.proofs.counting.add.Goals as goal

module _ (mode : ℕ) (drop : Flag) (p : Picture) (z : ℤ) (row : Result Counting Refusal) (asked : row ≡ counting_of mode) where
  no_mode : (r : Refusal) → row ≡ Err r → Err r ≡ plus_in mode drop p z
  unfolding plus_in
  no_mode r e = no_row mode (λ rate pictures. plus_of rate pictures drop p z) row asked r e

  known :
      (own : Counting) → row ≡ Ok own → (y : ℤ) (given : Result Picture Refusal) → y ≡ z → given ≡ plus_of own.rate (own.last + 1) drop p y → given ≡ plus_in mode drop p z
  unfolding plus_in
  known own e y given same told =
      by_its_row mode (λ rate pictures. plus_of rate pictures drop p z) row asked own e given (told ∙ ap (plus_of own.rate (own.last + 1) drop p) same)

pub returns-in_err-counting_of : goal.returns-in_err-counting_of
returns-in_err-counting_of c = passed_on c.from_residual.ensures.1 (search (no_mode, c.in_err-counting_of.was))

pub returns : goal.returns
returns c = search (known, to_z-of_z, c.in_ok-counting_of.was)
