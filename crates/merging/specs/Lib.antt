pub mod MergePatch
pub mod Parts
pub mod Examples
pub mod Claims
