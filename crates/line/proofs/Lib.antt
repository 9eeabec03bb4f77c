pub mod Lines
pub mod Round
