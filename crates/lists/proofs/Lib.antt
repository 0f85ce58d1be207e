-- The laws of lists and tests that the crates above cite.
pub mod Lists
pub mod Ranges
