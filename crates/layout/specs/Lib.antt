-- Layout    the 64 information bits as a number, low bit first: reading bits by their places, writing fields side by side
-- Flags     flags as bits, and where the mark and the binary group flags stand, in one table by rate
pub mod Layout
pub mod Flags
