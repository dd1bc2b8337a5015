pub mod StageLaws
pub mod CallLaws
