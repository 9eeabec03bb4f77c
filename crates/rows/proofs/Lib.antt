pub mod Binds
pub mod Columns
pub mod Drawing
