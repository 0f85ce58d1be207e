pub mod Powers
pub mod Working
