-- What a merge over words answers and writes, and what each turn of its pass does.
pub mod Merges
pub mod MergeLaws
pub mod MergeEntityLaws
