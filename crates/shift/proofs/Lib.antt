pub mod ExchangeLaws
pub mod SwapLaws
pub mod MoveLaws
pub mod ShiftLaws
pub mod SiblingLaws
