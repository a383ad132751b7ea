pub mod Rounding
pub mod Laws
pub mod Growth
pub mod Cases
