pub mod Slots
pub mod Entries
