-- `interval::form::has_wrong_pair` meets its contract. At each turn what was told is whether a pair so far is wrong.
-- Assumes nothing.
use Rattle.std.proofs.Common.{◌≡◌}
use Rattle.std.specs.Slice.Iter.{chunks_rest, chunks_size}
use Rattle.interval.proofs.Pairs.{Looked}
use Rattle.interval.proofs.form.has_wrong_pair.Given as goal

abbrev pub invariant-loop-group : goal.invariant-loop-group
invariant-loop-group l = (chunks_size l.group-iterator ≡ 10) × Looked l.line l.wrong (chunks_rest l.group-iterator)
