-- `clock::addresses::address_from` meets its contract: the verdict refuses as the call's list does, and what is sound is the address.
-- Assumes nothing.
use mathlib.Core.Path.{◌≡◌}
use Rattle.refusals.specs.declared.types.Refusal.{Refusal}
use Rattle.std.specs.Prelude.{Err, Ok, Result}
use Rattle.rates.specs.declared.types.Rate.{Rate}
use Rattle.rates.specs.declared.types.Flag.{Flag}
use Rattle.rates.specs.declared.types.Address.{Address}
use Rattle.refusals.specs.Answer.{verdict_of}
use Rattle.rates.specs.Refused.{refusals_of}
use Rattle.clock.specs.Calls.{fields_of}
use Rattle.refusals.proofs.Results.{passed_on}
use Rattle.refusals.proofs.Verdicts.{refused_by, passed_by}
use Rattle.clock.proofs.addresses.address_from.Goals as goal

module _ (rate : Rate) (drop : Flag) (a : Address) (found : Result Unit Refusal) (judged : found ≡ verdict_of (refusals_of rate drop a)) where
  refused : (n : Refusal) → found ≡ Err n → Err n ≡ fields_of rate drop a
  unfolding fields_of
  refused n e = refused_by Err (Ok a) (refusals_of rate drop a) found judged n e

  accepted : found ≡ Ok tt → Ok a ≡ fields_of rate drop a
  unfolding fields_of
  accepted sound = passed_by Err (Ok a) (refusals_of rate drop a) found judged sound

pub returns-in_err-judge : goal.returns-in_err-judge
returns-in_err-judge c = passed_on c.from_residual.ensures.1 (search (refused, c.in_err-judge.was))

pub returns : goal.returns
returns c = search (accepted, c.in_ok-judge.was)
