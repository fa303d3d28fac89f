pub mod Directs
