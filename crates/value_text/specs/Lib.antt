-- What a line of a value is read as, and what reading its text keeps, answers and leaves.
pub mod Fields
pub mod LineLaws
pub mod Rows
pub mod RowLaws
pub mod Reads
pub mod Outcomes
pub mod ReadLaws
pub mod Asking
pub mod AskLaws
