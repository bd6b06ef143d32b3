-- The records of a copy's chunks, and the paths in them.
pub mod Records
pub mod Theorems
