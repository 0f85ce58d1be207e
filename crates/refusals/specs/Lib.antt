pub mod Numbers
pub mod Refusals
pub mod Answers
pub mod Checks
