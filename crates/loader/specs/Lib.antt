pub mod Calls
pub mod AnswerLaws
pub mod LentAnswerLaws
