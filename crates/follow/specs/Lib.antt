pub mod Prints
pub mod Plain
