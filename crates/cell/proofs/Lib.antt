pub mod Firsts
pub mod Loops
pub mod Kept
pub mod Check
pub mod Read
pub mod Answers
