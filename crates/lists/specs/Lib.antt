pub mod Padded
pub mod Tests
