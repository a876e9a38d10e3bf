pub mod LoadReplies
pub mod LoadStates
pub mod Transcripts
pub mod WorkedLaws
pub mod TurnLaws
pub mod Outcomes
pub mod CameLaws
