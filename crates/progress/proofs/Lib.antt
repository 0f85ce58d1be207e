-- The laws of one mark's step.
pub mod MarksPassed
