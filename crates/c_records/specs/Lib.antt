-- The fields of a Node as numbers alone.
pub mod Flat
pub mod Numbers
