pub mod Entry
pub mod Draft
