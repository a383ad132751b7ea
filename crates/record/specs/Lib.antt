pub mod Record
pub mod Numbers
pub mod Leasts
pub mod Moments
