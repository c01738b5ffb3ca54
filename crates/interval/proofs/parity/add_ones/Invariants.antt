-- `interval::parity::add_ones` meets its contract. At each turn each count has the ones of the places so far.
-- Assumes nothing.
use Rattle.interval.proofs.Pass.{Adding}
use Rattle.interval.proofs.parity.add_ones.Given as goal

abbrev pub invariant-loop-place : goal.invariant-loop-place
invariant-loop-place l = Adding l.part l.initial.odds l.odds l.place
