-- `vitc::reading::information` meets its contract. At each turn the number is that of the bits of the groups that were yielded.
-- Assumes nothing.
use Rattle.std.proofs.Common.{◌≡◌}
use Rattle.std.specs.Slice.Iter.{rchunks_rest, rchunks_size}
use Rattle.vitc.proofs.InfoTurns.{Groups}
use Rattle.vitc.proofs.reading.information.Given as goal

abbrev pub invariant-loop-group : goal.invariant-loop-group
invariant-loop-group l = (rchunks_size l.group-iterator ≡ 10) × Groups l.line l.number (rchunks_rest l.group-iterator)
