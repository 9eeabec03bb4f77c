pub mod Flags
pub mod Keeping
pub mod Steps
