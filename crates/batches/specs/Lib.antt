pub mod Hearings
pub mod HearingLaws
pub mod Takes
pub mod TakeWordLaws
pub mod TakingLaws
pub mod Replays
pub mod ReplayLaws
