-- What a line of a step text was read as.
pub mod Lines
pub mod LineLaws
