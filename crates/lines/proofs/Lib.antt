-- Laws of lines and of texts in a buffer, which the crates above cite.
pub mod Buffers
pub mod Lines
