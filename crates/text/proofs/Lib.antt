pub mod Written
pub mod Decimal
pub mod Number
pub mod Lines
