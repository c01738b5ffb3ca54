-- Short     how long a line is at most
pub mod Short
