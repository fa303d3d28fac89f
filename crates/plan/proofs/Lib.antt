pub mod Homes
pub mod Tests
pub mod Places
pub mod Reserved
pub mod Verdicts
