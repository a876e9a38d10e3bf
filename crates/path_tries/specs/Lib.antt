-- Tries in words, and the trie of a path with its leaf.
pub mod Nodes
pub mod NodeLaws
