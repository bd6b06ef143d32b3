-- A list of chunks appended together, over any hash function F.
pub mod Chunks
pub mod Append
pub mod Conditions
pub mod Post
pub mod Inner
