pub mod Places
pub mod Values
