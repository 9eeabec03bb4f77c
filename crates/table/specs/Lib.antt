pub mod Table
pub mod Match
pub mod Places
pub mod Area
