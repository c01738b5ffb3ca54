-- `interval::placing::write_groups` meets its contract. At each turn what is stored and what is left make the whole.
-- Assumes nothing.
use Rattle.interval.specs.Loops.{Grouping}
use Rattle.interval.proofs.placing.write_groups.Given as goal

abbrev pub invariant-loop-g : goal.invariant-loop-g
invariant-loop-g l = Grouping l.info l.part l.left l.g
