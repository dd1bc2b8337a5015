-- Laws that the proofs cite.
pub mod PlaceLaws
pub mod NoteLaws
pub mod ComparedLaws
pub mod PairLaws
pub mod CountLaws
