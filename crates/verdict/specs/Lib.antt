pub mod Numbers
pub mod Verdict
pub mod Meaning
