-- Runs of words: what operations on them answer, and what copying and searching them leaves and answers.
pub mod Replies
pub mod Runs
pub mod SeqLaws
pub mod RunLaws
pub mod Keys
pub mod KeyLaws
