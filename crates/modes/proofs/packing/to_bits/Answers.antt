-- `modes::packing::to_bits` meets its contract: 2, 8 for the place, and else what the record answers at the mode's rate, of the record as its rate has it.
-- Assumes nothing.
use mathlib.Core.Path.{◌≡◌, sym, ◌∙◌}
use mathlib.Core.Bool.{Bool, true, false}
use Prim.Native.Nat.{ℕ, ◌+◌}
use Rattle.std.specs.Prelude.{Ok, Err, Result}
use Rattle.refusals.specs.declared.types.Refusal.TheVariants.{OutsideTheClock}
use Rattle.refusals.specs.declared.types.Refusal.{Refusal}
use Rattle.rates.specs.declared.types.Rate.{Rate}
use Rattle.pictures.specs.Pictures.{place_outside}
use Rattle.record.specs.declared.types.Record.{Record}
use Rattle.record.specs.Record.{at_place}
use Rattle.record.specs.Calls.{packed_of}
use Rattle.refusals.proofs.Results.{passed_on}
use Rattle.modes.specs.Modes.{unknown, rate_at, pictures_at, rated_of}
use Rattle.modes.specs.Calls.{packed_in}
use Rattle.modes.specs.AtRate.{place_left}
use Rattle.modes.proofs.ByRate.{packs_at_rate, rate_told, rate_refused}
use Rattle.modes.proofs.packing.to_bits.Goals as goal

module _ (mode : ℕ) (r : Record) (rated : Result Rate Refusal) (asked : rated ≡ rated_of mode) where
  no_mode : (n : Refusal) → rated ≡ Err n → Err n ≡ packed_in mode r
  unfolding packed_in
  no_mode n e = let is = rate_refused mode rated asked n e in rw (is.0, is.1)

  module _
      (rate : Rate) (known : rated ≡ Ok rate) (last : ℕ) (share : last + 1 ≡ pictures_at mode) (out : Bool) (tested : out ≡ place_outside (last + 1) r.place) where
    abbrev is : (unknown mode ≡ false) × (rate_at mode ≡ rate)
    is = rate_told mode rated asked rate known

    no_place : out ≡ true → Err OutsideTheClock ≡ packed_in mode r
    unfolding packed_in
    no_place e = rw (is.0, ← share, ← tested, e)

    packed :
        out ≡ false → (left : ℕ) → left ≡ place_left (last + 1) r.place → (s : Record) → s ≡ at_place left r
        → (given : Result ℕ Refusal) → given ≡ packed_of rate s → given ≡ packed_in mode r
    packed e left left_is s made given told =
        told ∙ rw (← is.1, made, left_is, share) (sym (packs_at_rate mode r is.0 (rw (← share) (sym tested ∙ e))))

pub returns-in_err-rate : goal.returns-in_err-rate
returns-in_err-rate c = passed_on c.from_residual.ensures.1 (search (no_mode, c.in_err-rate.was))

pub returns-then-is_place_outside : goal.returns-then-is_place_outside
returns-then-is_place_outside c = search (no_place, c.in_ok-rate.was)

pub returns : goal.returns
returns c = search (packed, c.in_ok-rate.was)
