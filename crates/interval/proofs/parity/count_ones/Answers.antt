-- `interval::parity::count_ones` meets its contract. At each turn the counts are those of the elements so far, which are whole eights.
-- Assumes nothing.
use Rattle.std.proofs.Common.{arith, ◌∙◌, ◌<◌, length}
use Rattle.std.specs.Slice.Iter.{chunks_exact_rest}
use Rattle.interval.proofs.Pass.{eights_begin, eights_ask, eights_turn, eights_end}
use Rattle.interval.proofs.parity.count_ones.Goals as goal

pub loop-part-init : goal.loop-part-init
loop-part-init c = (cc, eights_begin _ _ (cc))

pub add_ones-requires : goal.add_ones-requires
add_ones-requires c = eights_ask _ _ _ c.loop-part.invariant.1

pub loop-part-preserved : goal.loop-part-preserved
loop-part-preserved c =
    let step = c.in-Some.ensures.steps in (
      step.0 ∙ c.loop-part.invariant.0,
      eights_turn _ _ _ c.loop-part.invariant.1 _ _ _ step.1.0 (step.1.1 ∙ c.loop-part.invariant.0) c.add_ones.ensures,
    )

pub add_ones-requires-2 : goal.add_ones-requires-2
add_ones-requires-2 c = eights_ask _ _ _ c.loop-part.invariant.1

pub returns : goal.returns
returns c =
    let few : length (chunks_exact_rest c.loop-part.part-iterator) < 8 = omega (arith, c.in-None.ensures.steps.1.0, c.loop-part.invariant.0) in
    eights_end _ _ _ c.loop-part.invariant.1 _ _ few (c.remainder-rest.ensures ∙ c.chunks_exact-eights.ensures.remainder) c.add_ones-2.ensures
