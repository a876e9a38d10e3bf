-- The entry of a request type in a manifest, and the bound on the trips of a load for it.
pub mod Entries
pub mod EntryLaws
pub mod Bounds
pub mod BoundLaws
