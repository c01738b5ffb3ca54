-- `superframes::naming::is_misnamed` meets its contract: no name is asked for, or another is given.
-- Assumes nothing.
use Prim.Native.Nat.{ℕ, ◌+◌}
use mathlib.Core.Path.{◌≡◌}
use mathlib.Core.Bool.{false, not}
use lib.Dec.{eqb}
use Rattle.pictures.specs.declared.types.Counting.{Counting}
use Rattle.refusals.specs.declared.types.Refusal.{Refusal}
use Rattle.std.specs.Prelude.{Ok, Err, Result}
use Rattle.modes.specs.Modes.{high_row_of}
use Rattle.modes.proofs.ByRate.{row_told, row_refused}
use Rattle.superframes.specs.Named.{name_of, misnamed}
use Rattle.superframes.proofs.naming.is_misnamed.Goals as goal

module _ (mode second : ℕ) (row : Result Counting Refusal) (asked : row ≡ high_row_of mode) where
  no_name : (n : Refusal) → row ≡ Err n → false ≡ misnamed mode second
  unfolding misnamed
  no_name n e = rw (row_refused mode row asked n e).0

  compared : (own : Counting) → row ≡ Ok own → (name : ℕ) → name ≡ name_of own.rate (own.last + 1) → not (eqb second name) ≡ misnamed mode second
  unfolding misnamed
  compared own e name told = let is = row_told mode row asked own e in rw (told, is.0, is.1.0, ← is.1.1)

pub returns-in_default : goal.returns-in_default
returns-in_default c = search no_name

pub returns : goal.returns
returns c = search compared
