pub mod Admitting
pub mod Leaving
pub mod Whole
