pub mod Net
pub mod Loop
pub mod Laid
pub mod Written
pub mod Roots
pub mod Due
