pub mod SharedRun
pub mod FrameLaws
pub mod PlaceLaws
pub mod PartLaws
pub mod IsolationTheorem
pub mod ExampleTheorem
