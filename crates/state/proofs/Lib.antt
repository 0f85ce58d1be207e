-- The laws of a fresh run that the crate's own proofs and the crates above cite.
pub mod EntriesTaken
