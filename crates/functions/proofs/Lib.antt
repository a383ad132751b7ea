pub mod Carry
pub mod Branches
pub mod Known
pub mod Halving
pub mod Keeping
pub mod Applying
pub mod Chosen
pub mod Choosing
