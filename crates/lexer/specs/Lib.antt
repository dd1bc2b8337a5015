pub mod Answers
pub mod Hash
pub mod Names
pub mod Verbatim
pub mod States
pub mod ByClass
