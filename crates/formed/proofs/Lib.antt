pub mod Contradiction
pub mod Rows
pub mod Exact
pub mod Sets
