pub mod Thirds
pub mod Fit
mod Values
