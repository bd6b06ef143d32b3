-- The stored entry of a leaf of a copy.
pub mod StoredLeaf
