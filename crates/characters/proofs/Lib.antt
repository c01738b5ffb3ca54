-- Meant     what characters stand for
-- Sifts     the loop over characters begins, goes on and ends
-- SiftTests what each test of a turn over the characters leads to
pub mod Meant
pub mod Sifts
pub mod SiftTests
