-- Varints and fields, byte by byte.
pub mod Varints
pub mod Reading
pub mod Fields
pub mod Fronts
pub mod Inner
