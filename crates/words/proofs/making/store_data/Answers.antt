-- `words::making::store_data` meets its contract. At each turn what is stored and what is left make the whole.
-- Assumes nothing.
use Rattle.std.proofs.Common.{rules}
use Rattle.words.proofs.Turns.{store_turns, store_ends}
use Rattle.words.proofs.making.store_data.Goals as goal

pub loop-word-preserved : goal.loop-word-preserved
loop-word-preserved c = search (rules, store_turns)

pub returns : goal.returns
returns c = search (rules, store_ends)
