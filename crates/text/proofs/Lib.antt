pub mod Sum
pub mod Classes
pub mod Blanklaws
pub mod Wordlaws
pub mod Readlaws
