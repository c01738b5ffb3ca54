-- Characters   the bits that characters stand for
pub mod Characters
-- Loops        what holds at each turn of the loop
pub mod Loops
