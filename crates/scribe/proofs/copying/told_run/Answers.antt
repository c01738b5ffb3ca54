-- `scribe::copying::told_run` meets its contract. At each turn the lines of the bits taken stand at the start of the lent run; what is left to do is the bits
-- that no block has taken yet.
-- Assumes nothing.
use Rattle.scribe.proofs.Follows.{some_left, none_left, following_begins, following_ends, stays_within, grows_shorter, following_turns}
use Rattle.scribe.proofs.copying.told_run.Goals as goal

pub loop-rest-init : goal.loop-rest-init
loop-rest-init c = following_begins _ _ _ _ c.requires.0 c.requires.1 c.ranges.bits.fits

pub slice_bounds-rest-count : goal.slice_bounds-rest-count
slice_bounds-rest-count c = stays_within _ _ _ _ _ _ _ _ _ c.loop-rest.invariant (some_left _ c.is_empty.ensures c.loop-rest-test.true) _ c.told_block-told.ensures.0

pub slice_bounds-rest-start : goal.slice_bounds-rest-start
slice_bounds-rest-start c = stays_within _ _ _ _ _ _ _ _ _ c.loop-rest.invariant (some_left _ c.is_empty.ensures c.loop-rest-test.true) _ c.told_block-told.ensures.0

pub loop-rest-smaller : goal.loop-rest-smaller
loop-rest-smaller c = grows_shorter _ _ _ _ _ _ _ _ _ c.loop-rest.invariant (some_left _ c.is_empty.ensures c.loop-rest-test.true) _ c.told_block-told.ensures.0

pub loop-rest-preserved : goal.loop-rest-preserved
loop-rest-preserved c =
    let told = c.told_block-told.ensures in
    following_turns _ _ _ _ _ _ _ _ _ c.loop-rest.invariant (some_left _ c.is_empty.ensures c.loop-rest-test.true) _ told.0 _ told.1

pub returns : goal.returns
returns c = following_ends _ _ _ _ _ _ _ _ _ c.loop-rest.invariant (none_left _ c.is_empty.ensures c.loop-rest-test.false)
