-- What `analysis` answers and leaves.
pub mod Outcomes
pub mod PolicyAnswerLaws
pub mod AnswerLaws
