pub mod Layout
pub mod Fields
pub mod Columns
pub mod Tape
pub mod Cell
pub mod Rows
pub mod Map
pub mod Lent
