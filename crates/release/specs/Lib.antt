-- Releasing a chunk.
pub mod Release
pub mod Post
pub mod Theorems
