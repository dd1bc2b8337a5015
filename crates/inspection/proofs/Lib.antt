pub mod TallyLaws
pub mod InspectionLaws
pub mod ClaimTheorems
