-- Packets of the first m chunks.
pub mod Agree
pub mod First
pub mod Prefix
