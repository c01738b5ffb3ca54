-- Bare      without drop and sub-frame 2 the bits hold the same record but for these two, of which `record` gives 8 alone; and what the two add
pub mod Bare
-- Rows      the lists of refusals follow the table's order
pub mod Rows
