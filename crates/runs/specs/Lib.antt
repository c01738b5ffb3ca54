-- Gather    the number that a run of bits stands for
-- Run       room in a lent run, and what a write leaves in it
pub mod Gather
pub mod Run
-- Loops     what holds at each turn of the loops
pub mod Loops
