pub mod AnswerLaws
pub mod TextLaws
pub mod ReadLaws
pub mod StageLaws
pub mod CallLaws
pub mod RegionTheorem
pub mod ColumnsTheorem
