pub mod Bytes
pub mod Remains
pub mod Parts
pub mod Saves
