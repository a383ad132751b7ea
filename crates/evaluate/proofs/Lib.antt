pub mod Numbers
pub mod Entries
pub mod Halved
pub mod Step
pub mod Remaining
