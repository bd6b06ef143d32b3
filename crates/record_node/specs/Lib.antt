-- The calls on Nodes, and what their inner functions find.
pub mod Post
pub mod Inner
pub mod Theorems
