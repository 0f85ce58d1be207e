-- The laws of layouts that the crates above cite.
pub mod Sections
pub mod Before
pub mod Whole
pub mod Alike
