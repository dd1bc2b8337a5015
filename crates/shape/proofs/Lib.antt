pub mod KindLaws
pub mod MemberLaws
pub mod PassLaws
pub mod AnswerLaws
pub mod RunLaws
