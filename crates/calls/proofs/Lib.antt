pub mod Operands
pub mod Answers
