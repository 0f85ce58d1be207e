pub mod Log
pub mod Working
