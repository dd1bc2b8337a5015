pub mod LogLaws
pub mod DigitLaws
pub mod OperationLaws
pub mod NoteLaws
