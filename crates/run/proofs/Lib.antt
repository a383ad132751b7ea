pub mod Cells
pub mod Ends
pub mod Questions
