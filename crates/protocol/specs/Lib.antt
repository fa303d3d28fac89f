pub mod Beginnings
pub mod TextSessions
