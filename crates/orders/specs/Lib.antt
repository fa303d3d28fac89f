pub mod Exchanges
pub mod Lists
pub mod Perms
pub mod Ranks
pub mod Sorting
