-- The records of a register's chunks, and the paths in them.
pub mod ChunkRecords
pub mod Finding
pub mod Inner
pub mod Theorems
