-- Pieces    the 23 words from their pieces
pub mod Pieces
-- FormTests what each test of the form of a packet leads to
pub mod FormTests
