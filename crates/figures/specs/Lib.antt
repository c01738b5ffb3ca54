-- Figures   an address and eight groups, character by character
pub mod Figures
