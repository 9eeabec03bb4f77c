pub mod Rows
pub mod Pair
pub mod Outputs
pub mod Memo
