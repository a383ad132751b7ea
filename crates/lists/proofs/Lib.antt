pub mod Cases
pub mod Padded
pub mod Below
pub mod Count
pub mod Map
pub mod Loops
