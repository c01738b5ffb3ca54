-- Unnamed    where a byte that stands for nothing is turned away: 3, and what comes before it
-- Counting   what the calls that count answer
-- Carriers   linear words, vertical interval lines and ancillary packets
-- Reading    a reader
pub mod Unnamed
pub mod Counting
pub mod Carriers
pub mod Reading
