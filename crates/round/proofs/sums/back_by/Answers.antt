-- `round::sums::back_by` meets its contract: `!` of -(n + 1) is n.
-- Assumes nothing.
use lib.Signed.{mag}
use Rattle.round.proofs.Counts.{back, read_back, castable}
use Rattle.round.proofs.sums.back_by.Goals as goal

pub overflow_cast-result : goal.overflow_cast-result
overflow_cast-result c = castable _ (mag c.args.frames) (read_back c.args.frames c.ranges.frames c.requires) c.ranges.frames.sfits

pub returns : goal.returns
returns c = rw (read_back c.args.frames c.ranges.frames c.requires) (back c.args.frames c.requires)
