-- Turns     the loops begin, go on and end
pub mod Turns
-- Chains    what the library's `any` says of words, and what a few of them tell of all
pub mod Chains
-- Lists     how many data words there are, some of them, and how high a number can be that words hold together
pub mod Lists
-- Data      what is written into data words is read from them again, and those that are not refused are written so
pub mod Data
