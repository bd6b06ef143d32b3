-- Where the short way and the quick one agree on copies.
pub mod Theorems
pub mod ShortLookups
