pub mod Interface
pub mod Lists
pub mod Demand
pub mod Alone
