pub mod Rules
pub mod Working
