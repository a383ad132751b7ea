pub mod Reading
pub mod Arms
pub mod Seeding
pub mod Keeping
pub mod Opening
pub mod Placing
pub mod Assembly
