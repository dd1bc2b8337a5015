pub mod ShapeLaws
pub mod RuleLaws
pub mod ClaimTheorems
pub mod SpellLaws
pub mod BeginsLaws
pub mod RawLaws
pub mod WithinLaws
pub mod ExamplesTheorem
