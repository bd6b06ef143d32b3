-- The audit, over any hash function F.
pub mod Audit
pub mod Theorems
pub mod TreeWalk
pub mod BitfieldEntries
