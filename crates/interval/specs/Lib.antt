-- Line      the 90 bits of a line: places, pairs, the CRC, and the line that 64 bits make
-- Calls     what each call answers, refusals in the table's order
-- Loops     what holds at each turn of the loops
pub mod Line
pub mod Calls
pub mod Loops
