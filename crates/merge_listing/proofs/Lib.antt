pub mod StampLaws
pub mod ListLaws
pub mod StageLaws
