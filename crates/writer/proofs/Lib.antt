pub mod PlacedLaws
pub mod PieceLaws
pub mod LengthLaws
pub mod RoomLaws
pub mod ProgressLaws
pub mod ValueLaws
pub mod CallerLaws
