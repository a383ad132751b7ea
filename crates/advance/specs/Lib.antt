pub mod Task
pub mod Went
pub mod Parts
