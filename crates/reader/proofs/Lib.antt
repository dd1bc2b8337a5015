-- Laws that the proofs cite.
pub mod ValueLaws
pub mod ItemLaws
pub mod PastLaws
pub mod WordLaws
pub mod RowLaws
pub mod FilledLaws
pub mod MemberLaws
pub mod ReadingLaws
pub mod TextLaws
