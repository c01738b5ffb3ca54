-- Sync      the two parts of 80 elements, and which sixteen are the sync word
pub mod Sync
-- Words     a word has 80 elements, and is stored as its two parts
pub mod Words
-- Parts     the parts of a word made of 64 bits; it is read as its information bits are heard
pub mod Parts
-- Evened    a record and its mark; what setting the polarity bit adds
pub mod Evened
-- Rows      the lists of refusals follow the table's order
pub mod Rows
-- ReadTests what each test of a read leads to
pub mod ReadTests
-- WriteTests what each test of a write leads to
pub mod WriteTests
