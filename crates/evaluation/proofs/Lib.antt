pub mod Choice
pub mod Saying
pub mod Answering
pub mod Checked
