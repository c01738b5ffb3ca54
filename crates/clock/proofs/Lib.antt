-- Sizes      how large the clock's numbers get
pub mod Sizes
-- CountTests what the test of drop-frame leads to in a count, and how large its place gets
pub mod CountTests
-- Rows       the list of a frame number's refusals follows the table's order
pub mod Rows
