pub mod Chain
pub mod Time
pub mod Plan
pub mod Dearer
pub mod Working
