-- Laws that the proofs cite.
pub mod LabelLaws
pub mod MatchLaws
pub mod SiblingLaws
pub mod PartnerLaws
pub mod PendingLaws
pub mod EqualLaws
pub mod Examples
