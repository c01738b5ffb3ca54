-- Held      a reader as the list of the bits that it holds
-- Blank     zeros at the bottom of a register, which the check of a state counts
pub mod Held
pub mod Blank
-- Numbers   the ways as a number
pub mod Numbers
