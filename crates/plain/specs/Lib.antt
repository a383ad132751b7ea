pub mod Exceeded
pub mod Leaf
pub mod Ready
pub mod Shown
pub mod Leaves
pub mod Settle
pub mod Pattern
