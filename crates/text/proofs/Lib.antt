-- Laid      a word put into a run: side by side, one element more, what stands past it
-- Lays      a text laid element by element begins, goes on and ends
-- Appends   text appended where there is room stands whole, one after the other
-- Spelled   a number's decimal digits
pub mod Laid
pub mod Lays
pub mod Appends
pub mod Spelled
