-- Table     the refusals of document 01's table, each with its number, and those that requests of document 02 add, in their words, and the order in which they are given
-- Answer    of a list of (refusal, test), the refusal of the first whose test holds; and what it is to follow an order
pub mod Table
pub mod Answer
