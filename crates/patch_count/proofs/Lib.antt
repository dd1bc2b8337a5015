pub mod SumLaws
pub mod LineLaws
pub mod NameLaws
