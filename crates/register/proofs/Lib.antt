-- Registers every list of at most 80 bits is exactly one state, and a state is one of these exactly where the check passes
-- Pushed    shifting the register is pushing onto the list
-- Blanks    the zeros at the bottom of a register
pub mod Registers
pub mod Pushed
pub mod Blanks
