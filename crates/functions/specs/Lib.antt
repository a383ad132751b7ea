pub mod Open
pub mod Known
