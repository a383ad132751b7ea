pub mod Extending
pub mod Fixing
pub mod Reading
