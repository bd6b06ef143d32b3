-- Root hashes of earlier years.
pub mod PrefixRoot
pub mod Theorems
