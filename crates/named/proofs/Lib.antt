pub mod Once
pub mod Places
pub mod Passed
