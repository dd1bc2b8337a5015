pub mod Slots
pub mod Bits
pub mod Ways
pub mod Members
