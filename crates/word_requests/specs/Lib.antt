-- Faces     the interface that a number names
pub mod Faces
