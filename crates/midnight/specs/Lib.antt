-- Steps   the standard's clock: one frame on, with its carry, its skipped numbers and midnight; what it shows after n steps
pub mod Steps
