pub mod Units
pub mod Rules
pub mod Range
