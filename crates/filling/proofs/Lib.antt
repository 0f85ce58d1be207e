-- The laws of a table that is filled.
pub mod Fills
