-- Laws that the crate's own proofs and the programs cite.
pub mod Texts
pub mod Decimals
