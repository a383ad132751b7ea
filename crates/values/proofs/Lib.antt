pub mod Series
pub mod Single
pub mod Arriving
pub mod Flipping
