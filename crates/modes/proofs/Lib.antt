-- InMode    a call by mode answers 2, or what it answers by the mode's row
pub mod InMode
-- EachMode  what a computed test over the rows says of every mode, that an address has a picture; and which modes have which row
pub mod EachMode
-- InCode    what the code says of each mode, row by row
pub mod InCode
-- Counted   in a mode that is known, each call that counts answers as by the mode's row
pub mod Counted
-- Told      a carrier that takes its refusals from a record's answer refuses as its own list says
pub mod Told
-- ByRate    a record's bits are made as at the mode's rate, of the record as its rate has it; what a mode's rate tells
pub mod ByRate
-- Shown     bits are read as the record that they hold, at the place that is shown
pub mod Shown
-- Rows      each call by mode has one list of refusals, 2 first, and it follows the table's order
pub mod Rows
