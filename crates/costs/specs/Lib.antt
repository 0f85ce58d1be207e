pub mod Costs
pub mod Stretch
pub mod Energy
pub mod Dearer
pub mod Working
