pub mod Promise
pub mod Energy
pub mod Working
