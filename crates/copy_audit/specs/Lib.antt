-- The audit of a copy, over any hash function F.
pub mod Audit
pub mod Inner
