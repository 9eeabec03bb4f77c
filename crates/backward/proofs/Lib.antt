pub mod Way
pub mod Walk
