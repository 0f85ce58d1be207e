pub mod Events
pub mod Working
