pub mod Vectors
pub mod Meaning
