-- The laws of joined sheets, and what a caller may conclude from a join.
pub mod Values
pub mod Parts
pub mod Both
pub mod Answers
pub mod Theorems
