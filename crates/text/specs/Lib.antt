-- Ascii        characters by their numbers
-- Numerals     numbers as text
-- Gathered     text appended to the output
pub mod Ascii
pub mod Numerals
pub mod Gathered
-- Loops        what holds of a text that is laid element by element
pub mod Loops
