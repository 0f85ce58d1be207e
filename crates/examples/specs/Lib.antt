pub mod Starred
pub mod Offers
