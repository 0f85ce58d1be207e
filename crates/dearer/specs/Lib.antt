pub mod Dearer
