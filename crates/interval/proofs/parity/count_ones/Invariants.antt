-- `interval::parity::count_ones` meets its contract. At each turn the counts are those of the elements so far, which are whole eights.
-- Assumes nothing.
use Rattle.std.proofs.Common.{◌≡◌}
use Rattle.std.specs.Slice.Iter.{chunks_exact_rest, chunks_exact_size}
use Rattle.interval.proofs.Pass.{Passing}
use Rattle.interval.proofs.parity.count_ones.Given as goal

abbrev pub invariant-loop-part : goal.invariant-loop-part
invariant-loop-part l = (chunks_exact_size l.part-iterator ≡ 8) × Passing l.run l.odds (chunks_exact_rest l.part-iterator)
