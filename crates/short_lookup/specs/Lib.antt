-- The short way: lookups leaf by leaf, and a search bit by bit.
pub mod ShortLookup
pub mod Theorems
