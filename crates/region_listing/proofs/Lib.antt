pub mod StageLaws
