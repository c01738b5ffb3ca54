-- Telling   what each call may tell
pub mod Telling
