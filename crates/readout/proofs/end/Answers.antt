-- `readout::end` is safe and ends: the last line lies within its text.
-- Assumes nothing.
use Rattle.text.proofs.Laid.{told_within, prefix_length}
use Rattle.readout.proofs.end.Goals as goal

pub slice_bounds-text-end : goal.slice_bounds-text-end
slice_bounds-text-end c = told_within _ _ c.end_line-length.ensures.0 c.end_line-length.ensures.1

pub slice_bounds-write_all-end : goal.slice_bounds-write_all-end
slice_bounds-write_all-end c = prefix_length _ _ (told_within _ _ c.end_line-length.ensures.0 c.end_line-length.ensures.1)
