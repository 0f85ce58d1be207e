pub mod Named
pub mod Working
