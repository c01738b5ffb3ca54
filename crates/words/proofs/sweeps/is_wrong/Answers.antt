-- `words::sweeps::is_wrong` meets its contract: the count of ones of the nine low bits is that of their bit list.
-- Assumes nothing.
use Rattle.bits.proofs.Count.{low_ones}
use Rattle.words.proofs.sweeps.is_wrong.Goals as goal

pub returns : goal.returns
returns c = simp (low_ones 9)
