-- Counting   number to address and address to number in closed form
-- Calls      what each call answers, refusals in the table's order
pub mod Counting
pub mod Calls
