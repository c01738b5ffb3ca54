-- Demand1   a write is done or refused, and one that is refused changes no element
-- Demand2   numbers, addresses and pictures; words, lines and packets, read or written
-- Demand3   each code word is reported, as itself, at its 80th bit
-- Windows   what is heard in a window, exactly: forward, backward, complaints, and never both
-- Reverse   demand 3 of readers that hear both ways
-- Rehearsed the bars, each table under one claim
-- Accepted  a record is clear of its refusals exactly where it is acceptable
-- Pictures  which picture a word, a line or a packet shows, in the request's words
-- Places    what a place is refused by, and a mark that does not say it
-- Seconds   the number of a picture within its second
-- Families  types, second bytes and sub-frame bits are those that the source prints
-- Packets   what a packet can hold, in the requests' words
-- HighRates where a picture's place stands in modes 6 to 10, and the words that a packet opens with
-- Bounds    where a mode is refused by 2, exactly
-- Counting  where the calls that count give 8, 9, 10 and 14, exactly, and that they answer alike
-- Numbers   where a packet is refused by 1, 3 to 7 and 12, exactly
-- Tests     what the tests for 8, 9 and 10 of a packet say, in the documents' words
-- Refused   where a packet is refused by 8, 9 and 10, exactly
-- LineNumbers the line numbers that a packet may not claim are those that the printed table has no entry for
pub mod Demand1
pub mod Demand2
pub mod Demand3
pub mod Windows
pub mod Reverse
pub mod Rehearsed
pub mod Accepted
pub mod Pictures
pub mod Places
pub mod Seconds
pub mod LineNumbers
pub mod Families
pub mod Packets
pub mod HighRates
pub mod Bounds
pub mod Numbers
pub mod Refused
pub mod Tests
pub mod Counting
