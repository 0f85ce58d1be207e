-- The laws of written sheets that the crates above cite.
pub mod Starts
pub mod Sheets
pub mod Forms
pub mod Stores
