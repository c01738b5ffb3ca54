-- Calls     what each call answers, refusals in the table's order, and what a write leaves in the run
-- Asked     what `information` asks of a line
pub mod Calls
pub mod Asked
