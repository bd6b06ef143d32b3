-- The laws of the parts that are handed back.
pub mod Handed
