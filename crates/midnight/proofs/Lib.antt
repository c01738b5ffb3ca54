-- Face       a clock that skips nothing: one frame on is one place on, and places and fields are one to one
pub mod Face
-- Skip       drop-frame: where the numbers of a day stand on a clock that skips nothing
pub mod Skip
-- Ways       the ways of counting, and what the laws of the clock rest on for each
pub mod Ways
-- Shown      what the clock shows is the closed form; numbers and addresses match one to one
pub mod Shown
-- Answers    where an address is clear of refusals the clock shows it
pub mod Answers
