-- What joins the powers that are read to the planner's promise, and that a sheet and two powers have one text.
pub mod Read
pub mod Theorems
