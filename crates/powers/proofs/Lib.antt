-- The laws of powers that fit, and of those of a dearer job.
pub mod Powers
pub mod Dearer
