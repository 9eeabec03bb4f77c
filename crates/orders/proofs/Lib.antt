pub mod Places
pub mod Counts
pub mod Pairs
pub mod Neighbours
pub mod Whole
pub mod Candidates
pub mod Digits
pub mod Answers
