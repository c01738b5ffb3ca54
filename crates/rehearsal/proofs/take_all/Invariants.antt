-- `rehearsal::take_all` meets its contract: its loop is left by its own end at the last number of pieces, and at no other.
-- Assumes nothing.
use Rattle.std.proofs.Common.{◌≡◌}
use Rattle.rehearsal.proofs.take_all.Given as goal

abbrev pub invariant-loop : goal.invariant-loop
invariant-loop l = l.pieces ≡ l.counter
