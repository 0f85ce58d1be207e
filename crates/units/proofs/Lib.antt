-- The laws of rounding that the crates above cite.
pub mod Laws
