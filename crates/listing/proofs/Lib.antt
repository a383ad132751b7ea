pub mod Holding
pub mod Whole
pub mod Done
pub mod Lengths
