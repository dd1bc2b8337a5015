pub mod Stamps
pub mod Lists
pub mod Call
pub mod Stages
