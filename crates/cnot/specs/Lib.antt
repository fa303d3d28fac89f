pub mod Links
pub mod Steps
