pub mod ItemLaws
pub mod ExamplesTheorem
pub mod ComparisonTheorem
pub mod CallTheorem
