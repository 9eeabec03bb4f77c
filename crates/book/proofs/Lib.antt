pub mod Opening
pub mod Writing
pub mod Appending
pub mod Kept
pub mod Runs
pub mod Cases
pub mod Once
