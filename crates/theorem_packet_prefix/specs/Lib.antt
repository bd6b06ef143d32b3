-- Packets of the first m chunks.
pub mod Prefix
