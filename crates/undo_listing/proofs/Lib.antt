pub mod AnswerLaws
pub mod StageLaws
pub mod CallLaws
