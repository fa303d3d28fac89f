pub mod Firsts
pub mod Spans
pub mod Parts
