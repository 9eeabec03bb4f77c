pub mod Limits
pub mod Search
pub mod Listed
