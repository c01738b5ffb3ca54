-- `runs::carry::scatter` meets its contract. At each turn what is stored and what is left make the whole.
-- Assumes nothing.
use Rattle.std.proofs.Common.{rules}
use Rattle.runs.proofs.Turns.{scatter_turns, scatter_ends}
use Rattle.runs.proofs.carry.scatter.Goals as goal

pub loop-bit-preserved : goal.loop-bit-preserved
loop-bit-preserved c = search (rules, scatter_turns)

pub returns : goal.returns
returns c = search (rules, scatter_ends)
