-- a list of refusals that begins with the rows that come before 3
pub mod Firsts
-- the calls that count
pub mod Counted
-- the writes
pub mod Wrote
-- reading a packet
pub mod Opened
-- a reader that is fed
pub mod Fed
-- the lists as a host has them follow the order
pub mod Order
-- with bytes that each stand for something the answer is the call's own
pub mod Itself
