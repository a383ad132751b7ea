pub mod Record
pub mod Loops
pub mod LeastBelow
pub mod Entry
pub mod Leasts
pub mod Net
pub mod Read
