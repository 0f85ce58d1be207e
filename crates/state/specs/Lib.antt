pub mod State
pub mod Working
