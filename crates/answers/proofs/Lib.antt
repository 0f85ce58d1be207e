-- The laws of a planner's promise: `Promises` has one for each answer, `Answers` what follows for callers.
pub mod Buffers
pub mod Promises
pub mod Answers
