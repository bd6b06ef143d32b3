-- The search for a chunk that is not held.
pub mod Search
pub mod Inner
pub mod Meaning
pub mod Theorems
