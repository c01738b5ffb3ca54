-- `clock::numbers::number_of` meets its contract: the verdict refuses as the call's list does, and what is sound is counted.
-- Assumes nothing.
use mathlib.Core.Path.{◌≡◌, ap, ◌∙◌}
use mathlib.Core.Bool.{Bool}
use Prim.Native.Nat.{ℕ}
use Rattle.refusals.specs.declared.types.Refusal.{Refusal}
use Rattle.std.specs.Prelude.{Err, Ok, Result}
use Rattle.rates.specs.declared.types.Rate.{Rate}
use Rattle.rates.specs.declared.types.Flag.{Flag}
use Rattle.rates.specs.declared.types.Address.{Address}
use Rattle.clock.specs.declared.types.DayFrame.{DayFrame}
use Rattle.refusals.specs.Answer.{verdict_of}
use Rattle.rates.specs.Rates.{is_yes, frames_in_second}
use Rattle.clock.specs.Counting.{count_of}
use Rattle.rates.specs.Refused.{refusals_of}
use Rattle.clock.specs.Calls.{number_of}
use Rattle.refusals.proofs.Results.{passed_on}
use Rattle.refusals.proofs.Verdicts.{refused_by, passed_by}
use Rattle.clock.proofs.numbers.number_of.Goals as goal

module _ (rate : Rate) (drop : Flag) (a : Address) (found : Result Unit Refusal) (judged : found ≡ verdict_of (refusals_of rate drop a)) where
  refused : (n : Refusal) → found ≡ Err n → Err n ≡ number_of rate drop a
  unfolding number_of
  refused n e = refused_by Err _ (refusals_of rate drop a) found judged n e

  counted :
      (dropped : Bool) (n : DayFrame) → dropped ≡ is_yes drop → n.0 ≡ count_of (frames_in_second rate) dropped a → found ≡ Ok tt
      → Ok n ≡ number_of rate drop a
  unfolding number_of
  counted dropped n asked e sound =
      ap (λ (k : ℕ). Ok (record { 0 = k })) (e ∙ ap (λ (d : Bool). count_of (frames_in_second rate) d a) asked)
      ∙ passed_by Err _ (refusals_of rate drop a) found judged sound

pub returns-in_err-judge : goal.returns-in_err-judge
returns-in_err-judge c = passed_on c.from_residual.ensures.1 (search (refused, c.in_err-judge.was))

pub returns : goal.returns
returns c = search (counted, c.in_ok-judge.was)
