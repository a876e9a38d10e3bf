-- `LawfulLaws` has the laws of rows that come after a place, for the proofs of `lawful`.
pub mod LawfulLaws
