pub mod Reached
pub mod Judged
