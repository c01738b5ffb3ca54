-- `interval::placing::write_groups` meets its contract. At each turn what is stored and what is left make the whole.
-- Assumes nothing.
use Rattle.std.proofs.Common.{arith}
use Rattle.interval.proofs.Turns.{groups_turn, groups_end}
use Rattle.interval.proofs.placing.write_groups.Goals as goal

pub loop-g-preserved : goal.loop-g-preserved
loop-g-preserved c = groups_turn _ _ _ _ c.loop-g.invariant _ c.loop-g-test.true c.scatter.ensures

pub returns : goal.returns
returns c = groups_end _ _ _ _ c.loop-g.invariant (omega arith)
