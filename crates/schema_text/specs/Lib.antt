-- What a line of a schema's text is read as, and what reading the text answers and leaves.
pub mod Fields
pub mod LineLaws
pub mod Outcomes
pub mod ReadLaws
pub mod Reads
