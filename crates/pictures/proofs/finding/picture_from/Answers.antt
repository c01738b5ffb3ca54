-- `pictures::finding::picture_from` meets its contract: the verdict refuses as the call's list does, and what is sound is the picture.
-- Assumes nothing.
use mathlib.Core.Path.{◌≡◌}
use Prim.Native.Nat.{ℕ, ◌+◌}
use Rattle.refusals.specs.declared.types.Refusal.{Refusal}
use Rattle.std.specs.Prelude.{Err, Ok, Result}
use Rattle.refusals.specs.Answer.{verdict_of}
use Rattle.refusals.proofs.Results.{passed_on}
use Rattle.refusals.proofs.Verdicts.{refused_by, passed_by}
use Rattle.rates.specs.declared.types.Rate.{Rate}
use Rattle.rates.specs.declared.types.Flag.{Flag}
use Rattle.pictures.specs.declared.types.Picture.{Picture}
use Rattle.pictures.specs.Calls.{picture_refusals, fields_of}
use Rattle.pictures.proofs.finding.picture_from.Goals as goal

module _
    (rate : Rate) (last : ℕ) (drop : Flag) (p : Picture) (found : Result Unit Refusal) (judged : found ≡ verdict_of (picture_refusals rate (last + 1) drop p)) where
  refused : (n : Refusal) → found ≡ Err n → Err n ≡ fields_of rate (last + 1) drop p
  unfolding fields_of
  refused n e = refused_by Err (Ok p) (picture_refusals rate (last + 1) drop p) found judged n e

  accepted : found ≡ Ok tt → Ok p ≡ fields_of rate (last + 1) drop p
  unfolding fields_of
  accepted sound = passed_by Err (Ok p) (picture_refusals rate (last + 1) drop p) found judged sound

pub returns-in_err-judge : goal.returns-in_err-judge
returns-in_err-judge c = passed_on c.from_residual.ensures.1 (search (refused, c.in_err-judge.was))

pub returns : goal.returns
returns c = search (accepted, c.in_ok-judge.was)
