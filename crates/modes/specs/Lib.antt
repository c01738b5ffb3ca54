-- Modes     the table of modes: which number is which rate, with how many pictures to an address, and which numbers are unknown
-- Calls     what each call answers by mode: 2, and then what the pictures or the record answer by the mode's row
-- Shown     which picture of an address a word, a line or a packet shows
pub mod Modes
pub mod Calls
pub mod Shown
-- AtRate    a step of `to_bits`: the record as its rate has it
pub mod AtRate
