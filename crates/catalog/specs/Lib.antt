pub mod Lists
pub mod Small
