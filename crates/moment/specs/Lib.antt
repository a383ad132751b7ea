pub mod Exceeded
pub mod Next
pub mod ByNode
