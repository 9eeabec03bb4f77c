pub mod Match
pub mod Masks
