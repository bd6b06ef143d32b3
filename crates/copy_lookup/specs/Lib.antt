-- The place lookup, the byte lookup and the read on a copy.
pub mod Lookups
pub mod Reading
