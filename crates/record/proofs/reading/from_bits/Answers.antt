-- `record::reading::from_bits` meets its contract: the verdict refuses as the call's list does, and what is sound is the record.
-- Assumes nothing.
use mathlib.Core.Path.{◌≡◌, ap, ◌∙◌}
use mathlib.Core.Bool.{Bool, false}
use Prim.Native.Nat.{ℕ}
use Rattle.refusals.specs.declared.types.Refusal.{Refusal}
use Rattle.std.specs.Prelude.{Err, Ok, Result}
use Rattle.refusals.specs.Answer.{verdict_of}
use Rattle.refusals.proofs.Results.{passed_on}
use Rattle.refusals.proofs.Verdicts.{refused_by, passed_by}
use Rattle.rates.specs.declared.types.Rate.{Rate}
use Rattle.record.specs.declared.types.Record.{Record}
use Rattle.record.specs.Record.{record_of, digit_above_9}
use Rattle.record.specs.Calls.{record_refusals, bits_refusals, unpacked_of}
use Rattle.record.proofs.reading.from_bits.Goals as goal

module _
    (rate : Rate) (info : ℕ) (r : Record) (bad : Bool) (found : Result Unit Refusal) (read : r ≡ record_of rate info) (tested : bad ≡ digit_above_9 info)
    (judged : found ≡ verdict_of (record_refusals rate bad false r)) where
  judged_so : found ≡ verdict_of (bits_refusals rate info)
  judged_so = judged ∙ rw (tested, read)

  refused : (n : Refusal) → found ≡ Err n → Err n ≡ unpacked_of rate info
  unfolding unpacked_of
  refused n e = refused_by Err _ (bits_refusals rate info) found judged_so n e

  held : found ≡ Ok tt → Ok r ≡ unpacked_of rate info
  unfolding unpacked_of
  held sound = ap Ok read ∙ passed_by Err _ (bits_refusals rate info) found judged_so sound

pub returns-in_err-judge : goal.returns-in_err-judge
returns-in_err-judge c = passed_on c.from_residual.ensures.1 (search (refused, c.in_err-judge.was))

pub returns : goal.returns
returns c = search (held, c.in_ok-judge.was)
