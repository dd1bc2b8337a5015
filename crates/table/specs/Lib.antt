pub mod Meaning
pub mod All
pub mod Sound
pub mod Find
