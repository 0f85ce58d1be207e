-- That a sheet has one text.
pub mod Theorems
