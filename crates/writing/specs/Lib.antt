pub mod Form
pub mod Working
