-- Rates      the rates of counting: frames in a second, frames in a day, whether drop may be asked for; and a flag's yes or no
-- Face       an address as a clock shows it, and which ones it does not show
-- Refused    what an address, or two, are turned away by, in the table's order
pub mod Rates
pub mod Face
pub mod Refused
