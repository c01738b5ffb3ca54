-- `atc::writing::write` meets its contract: the mode is tested, the type and the second byte are judged, the record refuses as its own rows do, and by 11 where another
-- picture is shown, and the rest is the packet's own answer.
-- Assumes nothing.
use mathlib.Core.Path.{sym, ◌∙◌}
use Rattle.refusals.proofs.Results.{passed_on}
use Rattle.atc.proofs.WriteTests.{no_mode, no_payload, no_record, placed}
use Rattle.atc.proofs.writing.write.Goals as goal

pub returns-in_err-counting_of : goal.returns-in_err-counting_of
returns-in_err-counting_of c =
    let left = no_mode _ _ _ _ _ _ _ _ c.counting_of.ensures _ c.in_err-counting_of.was in (passed_on c.from_residual.ensures.1 left.0, left.1)

pub returns-in_err-judge : goal.returns-in_err-judge
returns-in_err-judge c =
    let left = no_payload _ _ _ _ _ _ _ _ c.counting_of.ensures _ c.in_ok-counting_of.was _ (sym c.judge.ensures ∙ c.in_err-judge.was) in
    (passed_on c.from_residual-in_err-judge.ensures.1 left.0, left.1)

pub returns-in_err-info : goal.returns-in_err-info
returns-in_err-info c =
    let left =
    no_record _ _ _ _ _ _ _ _ c.counting_of.ensures _ c.in_ok-counting_of.was
    (sym c.judge.ensures ∙ c.in_ok-judge.was) _ (sym c.bits_of.ensures ∙ c.in_err-info.was) in
    (passed_on c.from_residual-in_err-info.ensures.1 left.0, left.1)

pub returns : goal.returns
returns c =
    placed _ _ _ _ _ _ _ _ c.counting_of.ensures _ c.in_ok-counting_of.was (sym c.judge.ensures ∙ c.in_ok-judge.was) _ (sym c.bits_of.ensures ∙ c.in_ok-info.was) _ _ c.place.ensures
