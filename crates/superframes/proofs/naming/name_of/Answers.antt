-- `superframes::naming::name_of` meets its contract, rate by rate.
-- Assumes nothing.
use Prim.Native.Nat.{ℕ, ◌+◌}
use mathlib.Core.Path.{◌≡◌}
use Rattle.rates.specs.declared.types.Rate.{Rate}
use native.Mathlib.Omega.{arith}
use Rattle.rates.specs.declared.types.Rate.TheVariants.{At24, At25, At30}
use Rattle.superframes.specs.Named.{name_of}
use Rattle.superframes.proofs.naming.name_of.Goals as goal

module _ (rate : Rate) (last : ℕ) where
  of_24 : rate ≡ At24 → last + 1 ≡ name_of rate (last + 1)
  of_24 e = rw e (omega arith)

  of_25 : rate ≡ At25 → 32 + (last + 1) ≡ name_of rate (last + 1)
  of_25 e = rw e

  of_30 : rate ≡ At30 → 64 + (last + 1) ≡ name_of rate (last + 1)
  of_30 e = rw e

pub returns-in-At24 : goal.returns-in-At24
returns-in-At24 c = search of_24

pub returns-in-At25 : goal.returns-in-At25
returns-in-At25 c = search of_25

pub returns-in-At30 : goal.returns-in-At30
returns-in-At30 c = search of_30
