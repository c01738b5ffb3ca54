-- InfoTurns the loop over the information bits begins, goes on and ends
pub mod InfoTurns
-- ReadTests what a read answers once the form is judged
-- WriteTests what each answer of the record leads to in a write
pub mod ReadTests
pub mod WriteTests
-- Rows      both lists of refusals follow the table's order
pub mod Rows
