pub mod Change
pub mod Entries
pub mod Places
pub mod Room
pub mod Attempted
