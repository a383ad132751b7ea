pub mod Single
pub mod Resting
pub mod Leasting
pub mod Marking
pub mod Needing
