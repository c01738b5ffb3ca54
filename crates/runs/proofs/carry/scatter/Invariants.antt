-- `runs::carry::scatter` meets its contract. At each turn what is stored and what is left make the whole.
-- Assumes nothing.
use lib.ListN.{length}
use Rattle.runs.specs.Loops.{Scattering}
use Rattle.runs.proofs.carry.scatter.Given as goal

abbrev pub invariant-loop-bit : goal.invariant-loop-bit
invariant-loop-bit l = Scattering l.number (length l.initial.run) l.run l.left l.bit-index
