-- Places    the flag that stands at each of the three places that the rate decides
pub mod Places
-- Accepted  what acceptance says of a record's fields
pub mod Accepted
-- Quarters  four quarters of sixteen bits are the fields of the layout side by side
pub mod Quarters
-- Rows      the list of refusals follows the table's order
pub mod Rows
-- Marks     the bits of a record are 64, and what the mark adds to them
pub mod Marks
