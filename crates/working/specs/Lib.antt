pub mod Grown
pub mod Known
pub mod Many
