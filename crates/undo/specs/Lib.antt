pub mod Mend
pub mod Step
pub mod Run
pub mod Call
pub mod Stages
