pub mod Vectors
pub mod Order
pub mod Pairs
pub mod Verdict
pub mod Digits
