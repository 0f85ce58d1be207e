-- The laws of a row that a limit cuts.
pub mod Found
