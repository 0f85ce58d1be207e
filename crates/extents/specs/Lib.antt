pub mod Extents
pub mod Stray
