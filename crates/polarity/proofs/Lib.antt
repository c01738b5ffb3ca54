-- Zeros     the zeros of a word by the language's count of ones; its information bits
-- Heard     bits that 5 does not refuse are heard as what the record says, the mark taken off, with what was found
-- Rows      the list of refusals follows the table's order
pub mod Zeros
pub mod Heard
pub mod Rows
