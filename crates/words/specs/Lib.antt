-- Words     one word of a packet, and what its data words hold together
pub mod Words
-- Loops     what holds at each turn of the loops
pub mod Loops
