pub mod Search
pub mod Judge
pub mod Answer
pub mod Cases
