pub mod NumeralLaws
pub mod PlaceLaws
pub mod TakingLaws
