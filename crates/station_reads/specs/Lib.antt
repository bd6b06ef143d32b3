-- Reads that wait their turn, served from the two registers.
pub mod Serving
pub mod Meaning
