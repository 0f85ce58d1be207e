-- Request 107 for a user's own marks, and what has to be asked of the two sheets.
pub mod Checks
pub mod Dearer
