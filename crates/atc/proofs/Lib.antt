-- Turns     the loops begin, go on and end
pub mod Turns
-- Families  by mode, a packet's record is the one of its sub-frame bits or the one that a line's bits hold
pub mod Families
-- Answers   words that have the form of a packet answer what their information bits hold
pub mod Answers
-- ReadTests what a read answers once the form is judged
pub mod ReadTests
-- WriteTests what each test of a write leads to
pub mod WriteTests
