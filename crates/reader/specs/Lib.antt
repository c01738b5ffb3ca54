-- Steps     what a step answers, and the reader after it
-- Blocks    what a block answers: the single step, repeated
pub mod Steps
pub mod Blocks
-- Feeding   what holds at each turn of a block
pub mod Feeding
