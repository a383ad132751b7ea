pub mod All
pub mod Filled
pub mod Zeros
pub mod Linked
