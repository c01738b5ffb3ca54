-- `atc::reading::digits_in` meets its contract. At each turn the number is what the words behind those that are still to come hold.
-- Assumes nothing.
use Rattle.std.proofs.Common.{◌/◌, ◌%◌, length}
use Rattle.std.specs.Iterator.Adapters.{rev_source}
use Rattle.std.specs.Slice.Iter.{iter_rest}
use Rattle.atc.specs.Loops.{Gathering}
use Rattle.atc.proofs.Turns.{Coming}
use Rattle.atc.proofs.reading.digits_in.Given as goal

abbrev pub invariant-loop-word : goal.invariant-loop-word
invariant-loop-word g l =
    let rest = iter_rest (rev_source l.word-iterator) in
    Coming l.words rest × Gathering (λ word. word / g.row.WEIGHT % g.row.BASE) g.row.BASE l.words l.number (length rest)
