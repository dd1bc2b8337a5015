pub mod ScanLaws
pub mod WalkLaws
pub mod EscapeLaws
pub mod AcceptLaws
pub mod IndexLaws
pub mod PartLaws
pub mod PrefixLaws
