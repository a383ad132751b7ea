pub mod Crowd
pub mod Grow
pub mod Fill
pub mod Recall
pub mod Linking
pub mod Changing
pub mod Fresh
