pub mod Index
pub mod Stop
pub mod Holds
pub mod Steps
