pub mod Sequence
pub mod Examples
