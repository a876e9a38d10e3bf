-- What reading and writing a listing keep, answer and leave, in the words of `rules`.
pub mod Reads
pub mod Outcomes
pub mod ReadLaws
pub mod WriteLaws
