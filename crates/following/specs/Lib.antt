pub mod Run
pub mod Working
