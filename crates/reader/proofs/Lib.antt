-- Judged    a reader that nothing is found against passes
-- Taken     the reader after a bit holds the bits so far, and passes the check
-- Turns     a block begins, goes on and ends
-- FeedTests what each test of a turn of a block leads to
-- Rows      the lists of refusals follow the table's order: 13 straight after 2
pub mod Judged
pub mod Taken
pub mod Turns
pub mod FeedTests
pub mod Rows
