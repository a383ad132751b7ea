pub mod Value
pub mod Counted
pub mod Reader
