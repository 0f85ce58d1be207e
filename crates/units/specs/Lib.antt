pub mod Unit
pub mod Limits
pub mod Working
