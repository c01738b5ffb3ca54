-- Constants   the constants of the kinds
pub mod Constants
