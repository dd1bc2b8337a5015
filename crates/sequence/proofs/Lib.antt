pub mod RunLaws
pub mod MeansLaws
pub mod JoinedLaws
pub mod SequenceTheorem
pub mod ExamplesTheorem
