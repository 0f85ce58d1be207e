pub mod Job
pub mod Checks
pub mod Working
