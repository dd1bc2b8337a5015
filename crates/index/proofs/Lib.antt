pub mod SlotLaws
pub mod BitLaws
pub mod WayLaws
pub mod MemberLaws
