-- Lines        the line of an answer, and the last line
pub mod Lines
