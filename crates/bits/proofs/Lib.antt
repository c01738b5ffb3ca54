-- Bit       an element of a list of bits is 0 or 1, and so is each element of a number's bit list
-- Inverse   `value` and `to_bits` are inverse, at every width
-- Joined    lists side by side: one more bit, and two registers shifted by one
-- Count     the language's count of ones is the number of ones of the bit list, at every width, and what that says of parity
-- Neighbours a digit that is too small for it has not both of its top two bits set
pub mod Bit
pub mod Inverse
pub mod Joined
pub mod Count
pub mod Neighbours
