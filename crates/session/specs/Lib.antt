pub mod Places
pub mod Sessions
