pub mod Inspection
pub mod Tally
pub mod Claims
