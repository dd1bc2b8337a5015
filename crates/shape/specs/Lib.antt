pub mod Kinds
pub mod Members
pub mod Operation
pub mod Patch
