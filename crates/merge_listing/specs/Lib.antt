pub mod Stamps
pub mod Stages
pub mod Call
