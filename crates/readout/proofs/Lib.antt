-- Told      a piece is told, and the scribe goes on
-- Cuts      a piece may end anywhere
-- Sampled   the word of document 01, and its two lines
-- OneWay    the program hears forward only
pub mod Told
pub mod Cuts
pub mod Sampled
pub mod OneWay
