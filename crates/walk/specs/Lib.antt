pub mod Bearing
pub mod Names
pub mod Step
pub mod Path
