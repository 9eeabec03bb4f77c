pub mod Turns
pub mod Standing
pub mod Growing
pub mod Cuts
