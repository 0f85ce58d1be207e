pub mod Price
pub mod Settings
pub mod Working
