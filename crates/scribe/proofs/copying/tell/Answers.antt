-- `scribe::copying::tell` meets its contract: a reader that is refused turns the call away before anything is changed, and a place for each line is asked
-- for before any is told.
-- Assumes nothing.
use Rattle.refusals.proofs.Results.{passed_on}
use Rattle.std.proofs.Common.{arith}
use Rattle.reader.proofs.Judged.{passing}
use Rattle.scribe.proofs.Judged.{turned_away, no_room_left, told_all}
use Rattle.scribe.proofs.copying.tell.Goals as goal

pub returns-then-out-characters : goal.returns-then-out-characters
returns-then-out-characters c = no_room_left _ _ _ (passing _ _ c.judge.ensures c.in_ok-judge.was) (omega arith)

pub telling-requires : goal.telling-requires
telling-requires c = record { sound = passing _ _ c.judge.ensures c.in_ok-judge.was; room = omega arith }

pub returns-in_err-judge : goal.returns-in_err-judge
returns-in_err-judge c =
    let left = turned_away _ _ _ c.judge.ensures _ c.in_err-judge.was in
    record {
      answers_so = passed_on c.from_residual.ensures.1 left.answers_so;
      leaves_characters = left.leaves_characters;
      leaves_out = left.leaves_out;
    }

pub returns : goal.returns
returns c = told_all _ _ _ (passing _ _ c.judge.ensures c.in_ok-judge.was) (omega arith) c.telling.ensures
