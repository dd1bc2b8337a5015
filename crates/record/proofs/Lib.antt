-- The theorem on rows.
pub mod RowsTheorem
