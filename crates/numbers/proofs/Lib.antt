pub mod Nums
pub mod Rows
