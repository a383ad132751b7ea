pub mod Words
pub mod Lines
pub mod Column
pub mod Dump
pub mod Bound
pub mod Viewer
pub mod Told
