-- `vitc::reading::read` meets its contract: the form refuses as the list's first rows do, and what is left is the record's own list.
-- Assumes nothing.
use Rattle.refusals.proofs.Results.{passed_on}
use Rattle.vitc.proofs.ReadTests.{refused, bit_run, by_record}
use Rattle.vitc.proofs.reading.read.Goals as goal

pub information-requires : goal.information-requires
information-requires c = search (bit_run, c.in_ok-judge.was)

pub returns-in_err-judge : goal.returns-in_err-judge
returns-in_err-judge c = passed_on c.from_residual.ensures.1 (search (refused, c.in_err-judge.was))

pub returns : goal.returns
returns c = search (by_record, c.in_ok-judge.was)
