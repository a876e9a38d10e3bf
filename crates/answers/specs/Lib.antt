-- Answers and sets of ancestor ids in lent words.
pub mod Answers
pub mod AnswerLaws
pub mod LentLaws
pub mod AnswerExamples
