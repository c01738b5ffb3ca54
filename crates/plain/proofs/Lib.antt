-- what is shown to a host and handed back is what it was
pub mod Back
-- the numbers as the header has them
pub mod Header
