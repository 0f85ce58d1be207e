pub mod Naming
pub mod Sound
pub mod Logs
pub mod Told
pub mod Callers
pub mod Unread
