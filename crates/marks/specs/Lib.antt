pub mod Pays
pub mod Marks
pub mod Working
