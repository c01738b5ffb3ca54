-- `scribe::copying::told_run` meets its contract. At each turn the lines of the bits taken stand at the start of the lent run; what is left to do is the bits
-- that no block has taken yet.
-- Assumes nothing.
use Rattle.std.proofs.Common.{length}
use Rattle.scribe.specs.Loops.{Following}
use Rattle.scribe.proofs.copying.told_run.Given as goal

abbrev pub invariant-loop-rest : goal.invariant-loop-rest
invariant-loop-rest l = Following l.fn.reader l.bits l.run l.initial.out l.told.reader l.told.bits l.told.at l.rest l.out

abbrev pub decreases-loop-rest : goal.decreases-loop-rest
decreases-loop-rest l = length l.rest
