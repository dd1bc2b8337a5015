pub mod ExamplesTheorem
pub mod MemberLaws
pub mod StepLaws
pub mod PartLaws
pub mod MergeTheorem
pub mod ObjectLaws
