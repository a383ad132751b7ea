pub mod Steps
pub mod Roots
