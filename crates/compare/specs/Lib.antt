-- The comparing walk, over any hash function F.
pub mod Walk
pub mod Meaning
pub mod Inner
pub mod Theorems
