pub mod Call
pub mod Stages
pub mod Reads
pub mod Region
pub mod Columns
