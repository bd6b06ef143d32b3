-- What a job will need.
pub mod Needs
pub mod Post
pub mod Inner
pub mod Theorems
