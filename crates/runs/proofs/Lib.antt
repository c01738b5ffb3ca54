-- Turns     the loops begin, go on and end
-- Parts     a word in the middle of a run
pub mod Turns
pub mod Parts
-- Same      the test of two runs for the same elements, and what gathering tells
pub mod Same
-- Outcomes  a write is done or refused, and one that is refused leaves every element
pub mod Outcomes
