pub mod Join
pub mod Working
