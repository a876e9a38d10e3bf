pub mod Ends
pub mod SetLaws
pub mod AnswerCallLaws
pub mod LoadedLaws
pub mod SliceFitLaws
pub mod ResultLaws
