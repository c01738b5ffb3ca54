-- `modes::packing::from_bits` meets its contract: 2, and else what the record answers at the mode's rate.
-- Assumes nothing.
use mathlib.Core.Path.{◌≡◌, ◌∙◌}
use Prim.Native.Nat.{ℕ}
use Rattle.std.specs.Prelude.{Ok, Err, Result}
use Rattle.record.specs.declared.types.Record.{Record}
use Rattle.refusals.specs.declared.types.Refusal.{Refusal}
use Rattle.rates.specs.declared.types.Rate.{Rate}
use Rattle.record.specs.Calls.{unpacked_of}
use Rattle.refusals.proofs.Results.{passed_on}
use Rattle.modes.specs.Modes.{rated_of}
use Rattle.modes.proofs.ByRate.{rate_told, rate_refused}
use Rattle.modes.specs.Calls.{unpacked_in}
use Rattle.modes.proofs.packing.from_bits.Goals as goal

module _ (mode : ℕ) (info : ℕ) (rated : Result Rate Refusal) (asked : rated ≡ rated_of mode) where
  no_mode : (r : Refusal) → rated ≡ Err r → Err r ≡ unpacked_in mode info
  unfolding unpacked_in
  no_mode r e = let is = rate_refused mode rated asked r e in rw (is.0, is.1)

  known : (rate : Rate) → rated ≡ Ok rate → (given : Result Record Refusal) → given ≡ unpacked_of rate info → given ≡ unpacked_in mode info
  unfolding unpacked_in unpacked_of
  known rate e given told = let is = rate_told mode rated asked rate e in told ∙ rw (is.0, is.1)

pub returns-in_err-rate_of : goal.returns-in_err-rate_of
returns-in_err-rate_of c = passed_on c.from_residual.ensures.1 (search (no_mode, c.in_err-rate_of.was))

pub returns : goal.returns
returns c = search (known, c.in_ok-rate_of.was)
