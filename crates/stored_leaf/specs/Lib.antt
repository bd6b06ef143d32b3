-- The stored entry of a leaf.
pub mod StoredLeaf
pub mod Post
pub mod Theorems
