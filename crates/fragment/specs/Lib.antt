pub mod Kept
pub mod Link
pub mod Answer
pub mod Refusal
pub mod Claims
pub mod Examples
pub mod Scan
pub mod Call
