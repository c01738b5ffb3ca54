-- `host::carriers::shx_atc_read` meets its contract: with an interface that is none 1, 2 or 3; else the read answers.
-- Assumes nothing.
use Rattle.host.proofs.Opened.{another_length, turned_away, answered}
use Rattle.host.proofs.carriers.shx_atc_read.Goals as goal

pub returns-then-words-ne23 : goal.returns-then-words-ne23
returns-then-words-ne23 c = search another_length

pub returns-then-is_no_interface : goal.returns-then-is_no_interface
returns-then-is_no_interface c = search turned_away

pub returns : goal.returns
returns c = search answered
