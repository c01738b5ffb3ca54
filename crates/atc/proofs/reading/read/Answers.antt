-- `atc::reading::read` meets its contract: the form refuses as the list's first rows do, then the type and the second byte, then the record.
-- Assumes nothing.
use Rattle.refusals.proofs.Results.{passed_on}
use Rattle.atc.proofs.ReadTests.{refused, to_14, to_22, barred, unheld, held}
use Rattle.atc.proofs.reading.read.Goals as goal

pub returns-in_err-judge : goal.returns-in_err-judge
returns-in_err-judge c = passed_on c.from_residual.ensures.1 (search (refused, c.in_err-judge.was))

pub slice_bounds-byte_in-end : goal.slice_bounds-byte_in-end
slice_bounds-byte_in-end c = search (to_14, c.in_ok-judge.was)

pub slice_bounds-byte_in-end-2 : goal.slice_bounds-byte_in-end-2
slice_bounds-byte_in-end-2 c = search (to_22, c.in_ok-judge.was)

pub returns-in_err-judge-2 : goal.returns-in_err-judge-2
returns-in_err-judge-2 c = passed_on c.from_residual-in_err-judge-2.ensures.1 (search (barred, c.in_ok-judge.was, c.in_err-judge-2.was))

pub slice_bounds-info_in-end : goal.slice_bounds-info_in-end
slice_bounds-info_in-end c = search (to_22, c.in_ok-judge.was)

pub returns-in_err-record : goal.returns-in_err-record
returns-in_err-record c = passed_on c.from_residual-in_err-record.ensures.1 (search (unheld, c.in_ok-judge.was, c.in_ok-judge-2.was, c.in_err-record.was))

pub returns : goal.returns
returns c = search (held, c.in_ok-judge.was, c.in_ok-judge-2.was, c.in_ok-record.was)
