-- `record::judging::judge` meets its contract: the clock's judge, told what else makes 8 and 10 apply.
-- Assumes nothing.
use mathlib.Core.Path.{◌≡◌, ◌∙◌}
use mathlib.Core.Bool.{Bool, ◌||◌}
use Rattle.refusals.specs.declared.types.Refusal.{Refusal}
use Rattle.std.specs.Prelude.{Result}
use Rattle.refusals.specs.Answer.{verdict_of}
use Rattle.rates.specs.declared.types.Rate.{Rate}
use Rattle.rates.specs.Refused.{refusals_besides}
use Rattle.record.specs.declared.types.Record.{Record}
use Rattle.layout.specs.Flags.{unused_colour}
use Rattle.record.specs.Calls.{record_refusals}
use Rattle.record.proofs.judging.judge.Goals as goal

judged :
    (rate : Rate) (bad unused colour : Bool) (r : Record) (found : Result Unit Refusal) → colour ≡ unused_colour rate r.flags.colour
    → found ≡ verdict_of (refusals_besides bad (unused || colour) rate r.flags.drop r.address) → found ≡ verdict_of (record_refusals rate bad unused r)
judged rate bad unused colour r found tested e = e ∙ rw tested

pub returns : goal.returns
returns c = search judged
