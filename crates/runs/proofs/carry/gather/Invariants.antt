-- `runs::carry::gather` meets its contract. At each turn the number is that of the elements that were yielded, none of them above 1.
-- Assumes nothing.
use Rattle.std.specs.Iterator.Adapters.{rev_source}
use Rattle.std.specs.Slice.Iter.{iter_rest}
use Rattle.runs.specs.Loops.{Gathering}
use Rattle.runs.proofs.carry.gather.Given as goal

abbrev pub invariant-loop-bit : goal.invariant-loop-bit
invariant-loop-bit l = Gathering l.run l.number (iter_rest (rev_source l.bit-iterator))
