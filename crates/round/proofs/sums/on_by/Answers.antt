-- `round::sums::on_by` meets its contract: the bits of a count that is not below 0 are the count.
-- Assumes nothing.
use lib.Signed.{mag}
use Rattle.round.proofs.Counts.{on, read_on, castable}
use Rattle.round.proofs.sums.on_by.Goals as goal

pub overflow_cast-result : goal.overflow_cast-result
overflow_cast-result c = castable _ (mag c.args.frames) (read_on c.args.frames c.ranges.frames c.requires) c.ranges.frames.sfits

pub returns : goal.returns
returns c = rw (read_on c.args.frames c.ranges.frames c.requires) (on c.args.frames c.requires)
