-- Lines     the line numbers that a second byte may claim: Table 4 of source document 000
pub mod Lines
-- Records   the record in the 64 bits of a packet, by its mark or by its sub-frame bits
pub mod Records
-- Calls     what each call answers, refusals in the table's order
pub mod Calls
-- Loops     what holds at each turn of the loops
pub mod Loops
