-- `vitc::writing::write` meets its contract: the record refuses as its own rows do, by 11 where its mark does not say its picture, and the rest is the line's own answer.
-- Assumes nothing.
use Rattle.refusals.proofs.Results.{passed_on}
use Rattle.vitc.proofs.WriteTests.{no_record, placed}
use Rattle.vitc.proofs.writing.write.Goals as goal

pub returns-in_err-info : goal.returns-in_err-info
returns-in_err-info c = let left = no_record _ _ _ _ _ c.picture_to_bits.ensures _ c.in_err-info.was in (passed_on c.from_residual.ensures.1 left.0, left.1)

pub returns : goal.returns
returns c = placed _ _ _ _ _ c.picture_to_bits.ensures _ c.in_ok-info.was _ _ c.place.ensures
