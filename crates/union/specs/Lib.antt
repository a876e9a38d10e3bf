-- What the union of lent states answers and leaves, and what each of its steps keeps.
pub mod Unions
pub mod UnionLaws
pub mod Merge
pub mod MergeLaws
