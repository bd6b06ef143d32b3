-- A copy that holds every chunk.
pub mod Whole
