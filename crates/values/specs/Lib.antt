pub mod All
pub mod First
pub mod Arriving
