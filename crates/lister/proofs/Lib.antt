pub mod FirstBlocks
pub mod Listed
