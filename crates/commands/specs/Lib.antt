pub mod Commands
pub mod Callers
pub mod Entries
