pub mod Bytes
pub mod Fields
pub mod Orders
pub mod Clean
pub mod Fitting
pub mod Sizes
