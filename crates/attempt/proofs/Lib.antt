pub mod Prepared
pub mod Trying
pub mod First
