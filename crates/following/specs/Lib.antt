-- Reach     the states that feeding can bring a fresh reader to
-- Counting  the steps in which a bit is taken
-- Cuts      a run fed in blocks, each going on where the last one stopped
-- Following what demand 3 asks
pub mod Reach
pub mod Counting
pub mod Cuts
pub mod Following
