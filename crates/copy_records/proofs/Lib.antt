-- Laws of the records of a copy.
pub mod Chunk
