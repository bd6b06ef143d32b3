-- The records in the chunks of a metadata register, byte by byte.
pub mod Records
pub mod From
pub mod Theorems
pub mod Post
pub mod Inner
