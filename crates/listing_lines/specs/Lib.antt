-- The listing: what is read, and the lines that are printed.
pub mod Input
pub mod Lines
pub mod Limits
pub mod Inner
pub mod Post
