-- Record    the record that 64 bits hold, and the 64 bits that a record makes
-- Calls     what each call answers, refusals in the table's order
pub mod Record
pub mod Calls
-- Fits      what the parts of a write work with: a quarter of the 64 bits
pub mod Fits
