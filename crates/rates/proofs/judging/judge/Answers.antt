-- `rates::judging::judge` meets its contract: its tests are those of the list of refusals.
-- Assumes nothing.
use mathlib.Core.Path.{◌≡◌, ◌∙◌}
use mathlib.Core.Bool.{Bool, ◌||◌}
use Rattle.refusals.specs.declared.types.Refusal.{Refusal}
use Rattle.std.specs.Prelude.{Result}
use Rattle.rates.specs.declared.types.Rate.{Rate}
use Rattle.rates.specs.declared.types.Flag.{Flag}
use Rattle.rates.specs.declared.types.Address.{Address}
use Rattle.refusals.specs.Answer.{verdict_of}
use Rattle.rates.specs.Rates.{is_yes, frames_in_second}
use Rattle.rates.specs.Face.{outside, skipped}
use Rattle.rates.specs.Refused.{address_refusals, refusals_besides}
use Rattle.rates.proofs.judging.judge.Goals as goal

judged :
    (rate : Rate) (drop : Flag) (a : Address) (bad unused dropped out skip : Bool) (found : Result Unit Refusal)
    → dropped ≡ is_yes drop → out ≡ outside (frames_in_second rate) a → skip ≡ skipped a
    → found ≡ verdict_of (address_refusals rate dropped (bad || out) skip unused) → found ≡ verdict_of (refusals_besides bad unused rate drop a)
judged rate drop a bad unused dropped out skip found asked tested missed e = e ∙ rw (asked, tested, missed)

pub returns : goal.returns
returns c = search judged
