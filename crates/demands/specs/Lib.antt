-- Modes     the counting modes, with drop or without
-- Records   the records that can be carried, and which picture is shown
-- Table4    the line numbers that a packet may claim, as the source prints them
-- Families  the two families of packets: their types, the second byte and the sub-frame bits, as the source prints them
-- Form      the form of a packet, whatever it carries, in the documents' words
-- Refused   what 8, 9 and 10 say of a picture, a record and of bits, in the documents' words
-- Carriers  what it is for a write to be done or refused, and for words and records to match one to one
-- Bars      the bars that document 01 marks P, one table, and those of document 02, A4 and A6, two others
pub mod Modes
pub mod Records
pub mod Table4
pub mod Families
pub mod Form
pub mod Refused
pub mod Carriers
pub mod Bars
