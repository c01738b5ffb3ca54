-- Parsing   what is left of a line, and the most that a field may hold
pub mod Parsing
