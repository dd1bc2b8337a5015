pub mod Begins
pub mod Work
pub mod Words
pub mod Filled
pub mod Names
pub mod Items
pub mod Taken
pub mod Texts
