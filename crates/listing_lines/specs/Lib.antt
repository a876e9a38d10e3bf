-- What a line of the listing means, read and written, and the laws that the proofs cite.
pub mod Lines
pub mod LineLaws
pub mod WriteLaws
