pub mod Rule
pub mod Answer
pub mod Claims
pub mod Begins
pub mod Within
pub mod Examples
