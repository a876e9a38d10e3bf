-- What a line of a store is read as, what the lines of a store come to, and what reading a store answers and leaves.
pub mod Lines
pub mod LineLaws
pub mod Words
pub mod Entities
pub mod Standings
pub mod StandingLaws
pub mod Runs
pub mod RunLaws
pub mod OrderLaws
pub mod ReachedLaws
pub mod Outcomes
pub mod ReadLaws
pub mod StoreLaws
pub mod Answering
pub mod AnswerLaws
