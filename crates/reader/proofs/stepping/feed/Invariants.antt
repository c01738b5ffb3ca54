-- `reader::stepping::feed` meets its contract. At each turn what is still to come makes the whole block.
-- Assumes nothing.
use Rattle.reader.specs.Feeding.{Feeding}
use Rattle.reader.proofs.stepping.feed.Given as goal

abbrev pub invariant-loop-taken : goal.invariant-loop-taken
invariant-loop-taken l = Feeding l.limit l.run l.initial.now l.end l.now l.taken
