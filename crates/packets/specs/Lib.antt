-- Packet    the 23 words
-- Calls     what each call answers, refusals in the table's order
pub mod Packet
pub mod Calls
