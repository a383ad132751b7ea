pub mod Rest
pub mod Pending
pub mod Marks
