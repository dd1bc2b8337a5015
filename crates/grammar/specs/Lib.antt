pub mod Grammar
pub mod Limits
pub mod Theorems
pub mod RefusedAt
