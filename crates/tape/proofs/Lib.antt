-- Laws that the proofs cite, here and in the crates above.
pub mod FieldLaws
pub mod Columns
pub mod Loops
pub mod Forests
pub mod Tape
pub mod Cells
pub mod Rows
pub mod LeafLaws
pub mod Depth
pub mod Changes
pub mod Held
pub mod Map
pub mod Examples
