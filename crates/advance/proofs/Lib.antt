pub mod Ends
pub mod Moving
pub mod Zeros
