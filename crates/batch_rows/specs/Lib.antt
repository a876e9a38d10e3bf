-- What handing out a batch as rows answers and leaves, and the laws that the proofs cite.
pub mod Rows
pub mod RowLaws
