pub mod Five
pub mod ReadCell
pub mod SaveCell
pub mod Handed
pub mod Column
pub mod Course
pub mod Back
