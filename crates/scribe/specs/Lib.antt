-- Told         what is told of a piece of characters, and the scribe after it
pub mod Told
-- Blocks       the same of a run of bits, block by block
-- Loops        what holds at each turn of the loop
pub mod Blocks
pub mod Loops
