pub mod ExamplesTheorem
pub mod WithinTheorem
