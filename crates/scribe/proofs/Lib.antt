-- Lined     the lines of a run of bits, block by block
-- Follows   the loop over the blocks of a run begins, goes on and ends
-- Tells     the characters that count, sifted and told
-- Judged    what is turned away, and what is told
-- Pieces    one piece after the other
-- Rows      the list of refusals follows the table's order
pub mod Lined
pub mod Follows
pub mod Tells
pub mod Judged
pub mod Pieces
pub mod Rows
