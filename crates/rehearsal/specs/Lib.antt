-- Ends   how far the reading goes
pub mod Ends
