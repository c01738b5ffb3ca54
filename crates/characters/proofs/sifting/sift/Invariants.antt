-- `characters::sifting::sift` meets its contract. At each turn the bits of the characters read stand at the run's start.
-- Assumes nothing.
use Rattle.characters.specs.Loops.{Sifting}
use Rattle.characters.proofs.sifting.sift.Given as goal

abbrev pub invariant-loop-read : goal.invariant-loop-read
invariant-loop-read l = Sifting l.initial.run l.run l.read l.write
