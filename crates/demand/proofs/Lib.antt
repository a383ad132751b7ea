pub mod Column
pub mod FromC
pub mod ByValue
pub mod Demand
