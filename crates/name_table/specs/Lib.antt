-- The name table as a definition, a line of it as a word, and what reading it and finding a name answer and leave.
pub mod Words
pub mod Lines
pub mod Outcomes
pub mod NameLaws
pub mod LineLaws
pub mod ReadLaws
