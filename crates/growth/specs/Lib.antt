pub mod Growth
pub mod Working
