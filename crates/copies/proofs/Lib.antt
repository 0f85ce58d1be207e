-- The laws of rows of copies that the crate's own proofs and the crates above cite.
pub mod Offers
pub mod Copies
