pub mod Shuffles
