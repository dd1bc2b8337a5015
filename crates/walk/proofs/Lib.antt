pub mod StepLaws
pub mod NameLaws
pub mod Children
pub mod PathLaws
