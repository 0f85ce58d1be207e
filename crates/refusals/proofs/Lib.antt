-- The laws of refusals that the crates above cite.
pub mod Refusals
pub mod Answers
pub mod Checks
