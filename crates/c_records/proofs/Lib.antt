-- The fields of a Node as numbers, and back.
pub mod Flat
pub mod Restored
