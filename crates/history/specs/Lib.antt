pub mod Events
pub mod History
pub mod Counts
pub mod States
pub mod Entries
