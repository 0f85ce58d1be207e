-- The theorems on the library's calls together.
pub mod Stray
