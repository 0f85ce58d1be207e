pub mod Letters
pub mod Words
pub mod Texts
pub mod Files
pub mod Working
