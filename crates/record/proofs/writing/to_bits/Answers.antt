-- `record::writing::to_bits` meets its contract: the verdict refuses as the call's list does, and what is sound is packed.
-- Assumes nothing.
use mathlib.Core.Path.{◌≡◌, sym, ap, ◌∙◌}
use mathlib.Core.Bool.{Bool}
use Prim.Native.Nat.{ℕ}
use lib.Dec.{ltb}
use Rattle.refusals.specs.declared.types.Refusal.{Refusal}
use Rattle.std.specs.Prelude.{Err, Ok, Result}
use Rattle.rates.specs.declared.types.Rate.{Rate}
use Rattle.refusals.specs.Answer.{verdict_of}
use Rattle.refusals.proofs.Results.{passed_on}
use Rattle.refusals.proofs.Verdicts.{refused_by, passed_by}
use Rattle.record.specs.declared.types.Record.{Record}
use Rattle.record.specs.Record.{info_of, group_above_15}
use Rattle.record.specs.Calls.{record_refusals, write_refusals, packed_of}
use Rattle.record.proofs.writing.to_bits.Goals as goal

module _
    (rate : Rate) (r : Record) (bad : Bool) (found : Result Unit Refusal) (tested : bad ≡ group_above_15 r.groups)
    (judged : found ≡ verdict_of (record_refusals rate bad (ltb 0 r.place) r)) where
  judged_so : found ≡ verdict_of (write_refusals rate r)
  judged_so = judged ∙ rw tested

  stands : found ≡ Ok tt → verdict_of (write_refusals rate r) ≡ Ok tt
  stands sound = sym judged_so ∙ sound

  refused : (n : Refusal) → found ≡ Err n → Err n ≡ packed_of rate r
  unfolding packed_of
  refused n e = refused_by Err _ (write_refusals rate r) found judged_so n e

  made : (n : ℕ) → n ≡ info_of rate r → found ≡ Ok tt → Ok n ≡ packed_of rate r
  unfolding packed_of
  made n e sound = ap Ok e ∙ passed_by Err _ (write_refusals rate r) found judged_so sound

pub packed-requires : goal.packed-requires
packed-requires c = search (stands, c.in_ok-judge.was)

pub returns-in_err-judge : goal.returns-in_err-judge
returns-in_err-judge c = passed_on c.from_residual.ensures.1 (search (refused, c.in_err-judge.was))

pub returns : goal.returns
returns c = search (made, c.in_ok-judge.was)
