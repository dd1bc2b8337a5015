pub mod Comparison
pub mod Examples
pub mod Call
