-- Lookups and verified reads.
pub mod Descent
pub mod Unknown
pub mod Lookup
pub mod Inner
pub mod Capped
pub mod Read
pub mod Meaning
pub mod Theorems
