pub mod Lanes
pub mod Steps
