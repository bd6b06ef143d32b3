-- The walk along two packets, over any hash function F.
pub mod Walk
pub mod Meaning
pub mod Theorems
pub mod Inner
pub mod WeakHash
