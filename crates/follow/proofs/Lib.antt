-- Logs that are read piece by piece, calls in turn, and calls of no words.
pub mod Pieces
pub mod Turns
pub mod Plain
