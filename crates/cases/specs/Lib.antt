pub mod CaseFile
pub mod Numerals
pub mod Places
pub mod Same
pub mod Taking
