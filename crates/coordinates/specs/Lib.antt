-- Coordinates grouped before storing, and back.
pub mod Grouping
pub mod Inner
pub mod Post
pub mod Theorems
