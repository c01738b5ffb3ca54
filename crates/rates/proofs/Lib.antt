-- Inside     a face inside the clock: each field is within its range
pub mod Inside
-- Sizes      how large a rate's numbers are
pub mod Sizes
-- Rows       the list of an address's refusals follows the table's order
pub mod Rows
