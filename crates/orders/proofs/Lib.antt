pub mod Lists
pub mod Perms
pub mod Pairs
pub mod Tables
pub mod Traces
pub mod Keys
pub mod Compared
pub mod Sorting
