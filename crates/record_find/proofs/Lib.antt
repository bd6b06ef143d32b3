-- The laws of records in a register.
pub mod Chunk
pub mod Search
pub mod Highest
