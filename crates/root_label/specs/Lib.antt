-- The label of a root hash under a key.
pub mod Label
pub mod Post
