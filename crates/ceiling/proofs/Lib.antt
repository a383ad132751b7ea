pub mod Bounded
pub mod Trying
