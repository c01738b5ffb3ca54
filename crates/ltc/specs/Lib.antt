-- Calls     what each call answers, refusals in the table's order
pub mod Calls
