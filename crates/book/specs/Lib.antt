pub mod Books
pub mod Calls
pub mod Refusals
pub mod Answers
pub mod Histories
