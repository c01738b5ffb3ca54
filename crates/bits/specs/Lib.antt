-- Bits      a list of bits and the number it stands for, low bit first; its ones and its zeros
pub mod Bits
