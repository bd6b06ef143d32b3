-- BLAKE2b after RFC 7693, section 3.3, as definitions: a byte string is a list of numbers below 256.
pub mod Hash
pub mod Runs
pub mod Digest
pub mod Inner
pub mod Post
