pub mod Counts
pub mod Call
pub mod Stages
