pub mod Read
pub mod Functions
pub mod Runs
pub mod Replied
pub mod Saves
