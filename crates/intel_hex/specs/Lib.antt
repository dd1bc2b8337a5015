pub mod Record
pub mod Reading
pub mod Answer
pub mod Refusal
pub mod Claims
pub mod Steps
pub mod Call
