-- `rates::table::frames_in_day` meets its contract: the day of the rate, with or without drop-frame.
-- Assumes nothing.
use Rattle.rates.proofs.table.frames_in_day.Goals as goal

pub returns-then-drop : goal.returns-then-drop
returns-then-drop c = simp c.if-drop.true c.by_rate.ensures

pub returns : goal.returns
returns c = simp c.if-drop.false c.by_rate-2.ensures
