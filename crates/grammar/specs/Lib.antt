pub mod Header
pub mod Rows
pub mod Reading
pub mod Print
