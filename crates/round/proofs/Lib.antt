-- Round      the sum goes round midnight either way; the distance between numbers of an even day lies in its range, and adding it arrives
pub mod Round
-- Sizes      a distance between numbers that are not too large fits 32 bits
pub mod Sizes
-- Counts     a signed count taken apart: how far on, or one less than how far back
pub mod Counts
