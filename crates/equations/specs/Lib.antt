pub mod Equations
pub mod Working
