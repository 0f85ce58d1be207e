-- The theorem over the starred examples, and the sheets of request 107 with their answers.
pub mod Examples
pub mod Offers
