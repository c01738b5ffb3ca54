-- `scribe::copying::telling` meets its contract: the characters that count, sifted where they stand, are the bits that are told.
-- Assumes nothing.
use Rattle.scribe.proofs.Tells.{bits_within, sized, run_ready, told_whole}
use Rattle.scribe.proofs.copying.telling.Goals as goal

pub slice_bounds-told_run-end : goal.slice_bounds-told_run-end
slice_bounds-told_run-end c = bits_within c.args.before _ _ c.min-end.ensures c.sift-sifted.ensures.0 c.sift-sifted.ensures.1

pub slice_bounds-told_run-end-2 : goal.slice_bounds-told_run-end-2
slice_bounds-told_run-end-2 c = sized c.args.before _ _ c.min-end.ensures c.sift-sifted.ensures.0 c.sift-sifted.ensures.1

pub told_run-told-requires : goal.told_run-told-requires
told_run-told-requires c = run_ready c.args.before _ _ c.min-end.ensures c.sift-sifted.ensures.0 c.sift-sifted.ensures.1 _ c.requires

pub returns : goal.returns
returns c =
    let sift = c.sift-sifted.ensures in
    let ran = c.told_run-told.ensures in
    told_whole c.args.before _ _ c.min-end.ensures sift.0 sift.1 _ ran.0 ran.1 c.left_after.ensures
