-- The weight of a stretch as a sum (request 108). What a plan is stands in `chain`, and what planning gives in `planning`.
pub mod Weight
pub mod Working
