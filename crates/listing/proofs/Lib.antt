pub mod ListLaws
pub mod NumberLaws
pub mod StampLaws
pub mod ReadLaws
pub mod StageLaws
pub mod CallLaws
