-- The root hash, root hashes of earlier years and the search on a copy.
pub mod Roots
pub mod Post
