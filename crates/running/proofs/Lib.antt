pub mod Firsts
pub mod Counting
pub mod Fair
pub mod Fitting
