pub mod Changes
pub mod ByRoots
pub mod Mixed
pub mod Tries
