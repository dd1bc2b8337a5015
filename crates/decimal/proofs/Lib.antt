pub mod MantissaLaws
pub mod ExponentLaws
pub mod IntegerLaws
pub mod NormalLaws
pub mod Accepted
pub mod Examples
