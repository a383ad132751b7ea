pub mod Circuit
pub mod Source
pub mod Legal
pub mod File
pub mod Fixing
pub mod Saved
