pub mod Line
pub mod Pieces
pub mod Sums
pub mod Names
