-- The slice of a load, built from the answers to its rows.
pub mod Slices
pub mod Writing
pub mod Keys
pub mod HeardLaws
pub mod MergedLaws
pub mod WriteLaws
pub mod IdLaws
pub mod AncestorLaws
pub mod EntityLaws
pub mod SortLaws
pub mod GroupLaws
pub mod BuildLaws
pub mod CallLaws
