-- Piece     what is told of a piece of the input
-- Sample    the word of document 01, and its two lines
pub mod Piece
pub mod Sample
