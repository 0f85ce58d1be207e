-- Laws of the texts that are printed, and examples.
pub mod Lengths
pub mod HeldLines
pub mod Prints
pub mod Names
pub mod Tells
pub mod Examples
