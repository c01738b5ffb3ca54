-- `superframes::reading::judged` meets its contract: the judge of an address, told what else makes 8 and 10 apply.
-- Assumes nothing.
use Prim.Native.Nat.{ℕ, ◌+◌}
use mathlib.Core.Path.{◌≡◌, ap, ◌∙◌}
use mathlib.Core.Bool.{Bool}
use Rattle.refusals.proofs.Results.{passed_on}
use Rattle.refusals.specs.declared.types.Refusal.{Refusal}
use Rattle.std.specs.Prelude.{Err, Ok, Result}
use Rattle.refusals.specs.Answer.{Cause, verdict_of}
use Rattle.refusals.proofs.Verdicts.{refused_by, passed_by}
use mathlib.Core.List.{List}
use Rattle.rates.specs.declared.types.Rate.{Rate}
use Rattle.rates.specs.declared.types.Flag.{Flag}
use Rattle.rates.specs.Refused.{refusals_besides}
use Rattle.pictures.specs.Pictures.{place_outside}
use Rattle.record.specs.declared.types.Record.{Record}
use Rattle.superframes.specs.SubFrames.{place_said, other_set, placed_at}
use Rattle.superframes.specs.Bare.{judged_of}
use Rattle.superframes.proofs.reading.judged.Goals as goal

module _
    (rate : Rate) (last : ℕ) (drop second : Flag) (r : Record) (place : ℕ) (said : place ≡ place_said (last + 1) r.flags.mark second r.flags.bgf0)
    (out : Bool) (looked : out ≡ place_outside (last + 1) place) (other : Bool) (set : other ≡ other_set (last + 1) r.flags) (found : Result Unit Refusal)
    (judged : found ≡ verdict_of (refusals_besides out other rate drop r.address)) where
  abbrev rows : List Cause
  rows =
      refusals_besides (place_outside (last + 1) (place_said (last + 1) r.flags.mark second r.flags.bgf0)) (other_set (last + 1) r.flags) rate drop
      r.address

  judged_so : found ≡ verdict_of rows
  judged_so = judged ∙ rw (looked, said, set)

  refused : (n : Refusal) → found ≡ Err n → Err n ≡ judged_of rate (last + 1) drop second r
  refused n e = refused_by Err _ rows found judged_so n e

  held : found ≡ Ok tt → (s : Record) → s ≡ placed_at place drop r → Ok s ≡ judged_of rate (last + 1) drop second r
  held sound s made = ap Ok made ∙ (rw said (passed_by Err _ rows found judged_so sound))

pub returns-in_err-judge : goal.returns-in_err-judge
returns-in_err-judge c = passed_on c.from_residual.ensures.1 (search (refused, c.in_err-judge.was))

pub returns : goal.returns
returns c = search (held, c.in_ok-judge.was)
