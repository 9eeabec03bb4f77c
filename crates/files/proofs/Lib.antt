pub mod Parts
pub mod Files
