-- The laws of headers that the crates above cite.
pub mod Header
pub mod Loop
