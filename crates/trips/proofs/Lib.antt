-- Numbers    the laws of counting, said by mode: numbers and pictures match one to one, and adding the distance arrives
pub mod Numbers
-- Records    the 64 bits and a record match one to one, at every rate
-- ByMode     and in every mode that a line knows, with the picture that is shown
-- SubFrames  and where the picture is carried in sub-frame bits
pub mod Records
pub mod ByMode
pub mod SubFrames
-- Linear words:
-- Polarity   what is made corrected has even zeros, and what is found says which of the two values of the polarity bit was made
-- Words      what was written reads as its record, and what was read, written again by what was found, is the same
-- Five       5 is given exactly where the zeros are odd and the polarity bit is 1, and no number before 5 applies
pub mod Polarity
pub mod Words
pub mod Five
-- Vertical interval lines:
-- Crc        the eight bits that make every count even, and that no others do
-- Standing   where the information bits and the pairs stand
-- WholeLine  a line and its 64 bits, one to one
-- Lines      accepted lines and acceptable records match one to one
pub mod Crc
pub mod Standing
pub mod WholeLine
pub mod Lines
-- Packets:
-- WholePacket the 23 words there and back
-- Packets    accepted packets and what they hold match one to one
-- Nineteen   19 and 23: given exactly where a line number is claimed that can't be, or a mode is not named, and no number before applies
pub mod WholePacket
pub mod Packets
pub mod Nineteen
-- All three:
-- Eleven     11 is given exactly where the record stands and another picture is asked for than is shown, or, on the linear track, a mark
pub mod Eleven
