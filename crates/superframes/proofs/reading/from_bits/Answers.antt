-- `superframes::reading::from_bits` meets its contract: 2, and else what is answered by the mode's row.
-- Assumes nothing.
use Prim.Native.Nat.{ℕ, ◌+◌}
use mathlib.Core.Path.{◌≡◌, ◌∙◌}
use Rattle.pictures.specs.declared.types.Counting.{Counting}
use Rattle.refusals.specs.declared.types.Refusal.{Refusal}
use Rattle.std.specs.Prelude.{Ok, Err, Result}
use Rattle.record.specs.declared.types.Record.{Record}
use Rattle.refusals.proofs.Results.{passed_on}
use Rattle.modes.specs.Modes.{high_row_of}
use Rattle.modes.proofs.ByRate.{row_told, row_refused}
use Rattle.superframes.specs.Calls.{unpacked_of, unpacked_in}
use Rattle.superframes.proofs.reading.from_bits.Goals as goal

module _ (mode info : ℕ) (row : Result Counting Refusal) (asked : row ≡ high_row_of mode) where
  no_mode : (n : Refusal) → row ≡ Err n → Err n ≡ unpacked_in mode info
  unfolding unpacked_in
  no_mode n e = let is = row_refused mode row asked n e in rw (is.0, is.1)

  by_its_row : (own : Counting) → row ≡ Ok own → (given : Result Record Refusal) → given ≡ unpacked_of own.rate (own.last + 1) info → given ≡ unpacked_in mode info
  unfolding unpacked_in unpacked_of
  by_its_row own e given told = let is = row_told mode row asked own e in told ∙ rw (is.0, is.1.0, ← is.1.1)

pub returns-in_err-counting : goal.returns-in_err-counting
returns-in_err-counting c = passed_on c.from_residual.ensures.1 (search (no_mode, c.in_err-counting.was))

pub returns : goal.returns
returns c = search (by_its_row, c.in_ok-counting.was)
