pub mod Additions
