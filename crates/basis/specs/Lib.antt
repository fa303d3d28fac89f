pub mod IndexVectors
