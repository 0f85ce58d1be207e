-- That a sheet has one text, and that it is what `plan` prints.
pub mod Theorems
