pub mod Shifts
pub mod Weights
pub mod Matching
pub mod Stepping
pub mod Comparing
pub mod Telling
