pub mod Alike
pub mod Places
pub mod Storing
pub mod Moments
pub mod Entries
pub mod Whole
