pub mod Told
pub mod Books
pub mod Judges
