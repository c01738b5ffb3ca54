-- `polarity::hearing::read_info` meets its contract: odd zeros with the polarity bit set are refused, and else the record answers, its mark taken off.
-- Assumes nothing.
use mathlib.Core.Path.{◌≡◌, ap, ap₂, sym, ◌∙◌}
use mathlib.Core.Bool.{Bool, true, false}
use Prim.Native.Nat.{ℕ}
use Rattle.refusals.specs.declared.types.Refusal.{Refusal}
use Rattle.refusals.proofs.Results.{passed_on}
use Rattle.std.specs.Prelude.{Err, Ok, Result}
use Rattle.refusals.specs.declared.types.Refusal.TheVariants.{WrongCheck}
use Rattle.rates.specs.declared.types.Flag.TheVariants.{No}
use Rattle.rates.specs.declared.types.Rate.{Rate}
use Rattle.record.specs.declared.types.Record.{Record}
use Rattle.record.specs.Record.{marked}
use Rattle.modes.specs.Modes.{unknown, rate_at, rated_of}
use Rattle.modes.specs.Calls.{unpacked_in}
use Rattle.modes.proofs.ByRate.{rate_told, rate_refused}
use Rattle.polarity.specs.declared.types.Found.{Found}
use Rattle.polarity.specs.Word.{reading, word_with, miscorrected, found_in}
use Rattle.polarity.specs.Heard.{heard_of}
use Rattle.polarity.proofs.Heard.{with_found, heard_is}
use Rattle.polarity.proofs.hearing.read_info.Goals as goal

module _ (mode info : ℕ) (rated : Result Rate Refusal) (named : rated ≡ rated_of mode) where
  no_mode : (n : Refusal) → rated ≡ Err n → Err n ≡ heard_of mode info
  unfolding heard_of
  no_mode n e = let is = rate_refused mode rated named n e in rw (is.0, is.1)

  module _ (rate : Rate) (is : rated ≡ Ok rate) where
    own : (unknown mode ≡ false) × (rate_at mode ≡ rate)
    own = rate_told mode rated named rate is

    module _ (wrong : Bool) (tested : wrong ≡ miscorrected rate (word_with info)) where
      in_mode : wrong ≡ miscorrected (rate_at mode) (word_with info)
      in_mode = tested ∙ ap (λ (k : Rate). miscorrected k (word_with info)) (sym own.1)

      by_5 : wrong ≡ true → Err WrongCheck ≡ heard_of mode info
      unfolding heard_of
      by_5 e = rw (own.0, ← in_mode, e)

      module _ (right : wrong ≡ false) (held : Result Record Refusal) (told : held ≡ unpacked_in mode info) where
        heard : with_found (found_in (word_with info)) held ≡ heard_of mode info
        heard = ap (with_found (found_in (word_with info))) told ∙ sym (heard_is mode info (sym in_mode ∙ right))

        refused : (n : Refusal) → held ≡ Err n → Err n ≡ heard_of mode info
        refused n e = ap (with_found (found_in (word_with info))) (sym e) ∙ heard

        accepted :
            (r s : Record) (found : Found) → held ≡ Ok r → s ≡ marked No r → found ≡ found_in (word_with info) → Ok (reading s found) ≡ heard_of mode info
        accepted r s found e taken_off looked = ap₂ (λ (q : Record) (f : Found). Ok (reading q f)) taken_off looked ∙ (ap (with_found (found_in (word_with info))) (sym e) ∙ heard)

pub returns-in_err-rate : goal.returns-in_err-rate
returns-in_err-rate c = passed_on c.from_residual.ensures.1 (search (no_mode, c.in_err-rate.was))

pub returns-then-is_miscorrected : goal.returns-then-is_miscorrected
returns-then-is_miscorrected c = search (by_5, c.in_ok-rate.was)

pub returns-in_err-held : goal.returns-in_err-held
returns-in_err-held c = passed_on c.from_residual-in_err-held.ensures.1 (search (refused, c.in_ok-rate.was, c.in_err-held.was))

pub returns : goal.returns
returns c = search (accepted, c.in_ok-rate.was, c.in_ok-held.was)
