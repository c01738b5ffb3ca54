-- `words::making::store_data` meets its contract. At each turn what is stored and what is left make the whole.
-- Assumes nothing.
use lib.ListN.{length}
use Rattle.words.specs.Loops.{Storing}
use Rattle.words.proofs.making.store_data.Given as goal

abbrev pub invariant-loop-word : goal.invariant-loop-word
invariant-loop-word l = Storing l.info l.carried (length l.initial.run) l.run l.left l.bits l.word-index
