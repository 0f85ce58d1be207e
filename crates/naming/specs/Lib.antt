pub mod Calls
pub mod Log
pub mod Turns
