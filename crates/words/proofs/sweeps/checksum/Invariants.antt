-- `words::sweeps::checksum` meets its contract. At each turn the sum so far and the words ahead make the whole.
-- Assumes nothing.
use Rattle.words.specs.Loops.{Summing}
use Rattle.words.proofs.sweeps.checksum.Given as goal

abbrev pub invariant-loop-word : goal.invariant-loop-word
invariant-loop-word l = Summing l.words l.sum l.word-index
