-- Window    what is heard in the bits that a reader holds
-- Looks     which way bits run, and where the sync word stands in a register
pub mod Window
pub mod Looks
-- Numbers   a way as a number
pub mod Numbers
