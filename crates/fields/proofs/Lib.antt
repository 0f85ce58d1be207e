-- The laws of bytes and fields, read and written, that the crates above cite.
pub mod Bytes
pub mod Written
pub mod Stores
