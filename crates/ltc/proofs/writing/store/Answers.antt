-- `ltc::writing::store` meets its contract: the two parts of the word, each as it comes back.
-- Assumes nothing.
use Rattle.ltc.proofs.Words.{both_stored}
use Rattle.ltc.proofs.writing.store.Goals as goal

pub returns : goal.returns
returns c = search both_stored
