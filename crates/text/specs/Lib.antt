pub mod Decode
pub mod Letters
pub mod Runs
pub mod Written
pub mod UpperHex
