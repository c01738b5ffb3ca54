-- `rates::judging::judge_two` meets its contract: its tests are those of the list of refusals of two addresses.
-- Assumes nothing.
use mathlib.Core.Path.{◌≡◌, ◌∙◌}
use mathlib.Core.Bool.{Bool, ◌||◌}
use Rattle.refusals.specs.declared.types.Refusal.{Refusal}
use Rattle.std.specs.Prelude.{Result}
use Rattle.rates.specs.declared.types.Rate.{Rate}
use Rattle.rates.specs.declared.types.Flag.{Flag}
use Rattle.rates.specs.declared.types.Address.{Address}
use Rattle.refusals.specs.Answer.{verdict_of}
use Rattle.rates.specs.Rates.{is_yes, frames_in_second}
use Rattle.rates.specs.Face.{outside, skipped}
use Rattle.rates.specs.Refused.{address_refusals, refusals_of_two_besides}
use Rattle.rates.proofs.judging.judge_two.Goals as goal

judged :
    (rate : Rate) (drop : Flag) (a b : Address) (bad unused dropped out out' skip skip' : Bool) (found : Result Unit Refusal)
    → dropped ≡ is_yes drop → out ≡ outside (frames_in_second rate) a → out' ≡ outside (frames_in_second rate) b
    → skip ≡ skipped a → skip' ≡ skipped b
    → found ≡ verdict_of (address_refusals rate dropped (bad || (out || out')) (skip || skip') unused)
    → found ≡ verdict_of (refusals_of_two_besides bad unused rate drop a b)
judged rate drop a b bad unused dropped out out' skip skip' found asked tested tested' missed missed' e =
    e ∙ rw (asked, tested, tested', missed, missed')

pub returns : goal.returns
returns c = search judged
