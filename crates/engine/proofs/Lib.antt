-- The laws of the engine's answers, and what follows for callers.
pub mod Answers
pub mod Theorems
pub mod Dearer
