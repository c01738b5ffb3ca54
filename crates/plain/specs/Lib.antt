-- Given      what a host's numbers stand for, and which stand for nothing
-- Shown      our types in a host's numbers
-- Answers    each answer as a code and what stands beside it
pub mod Given
pub mod Shown
pub mod Answers
