-- `interval::parity::add_ones` meets its contract. At each turn each count has the ones of the places so far.
-- Assumes nothing.
use Rattle.std.proofs.Common.{arith}
use Rattle.interval.proofs.Pass.{add_begins, add_turns, add_ends}
use Rattle.interval.proofs.parity.add_ones.Goals as goal

pub loop-place-init : goal.loop-place-init
loop-place-init c = add_begins _ _ c.requires.0 c.requires.1

pub loop-place-preserved : goal.loop-place-preserved
loop-place-preserved c = add_turns _ _ _ _ c.loop-place.invariant _ c.one_in-one.ensures (omega arith)

pub returns : goal.returns
returns c = add_ends _ _ _ _ c.loop-place.invariant (omega arith)
