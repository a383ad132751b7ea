pub mod Lists
pub mod Precedes
pub mod Transistors
pub mod Cells
pub mod Small
pub mod Places
pub mod Examples
