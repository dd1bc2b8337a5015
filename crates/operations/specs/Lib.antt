pub mod Stamp
pub mod Bearing
pub mod Answers
pub mod Perform
pub mod Run
