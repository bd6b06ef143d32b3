-- BLAKE2b after RFC 7693, sections 2.6 to 3.2, as definitions: a word is a number below 2^64, and a vector of words a list.
pub mod Constants
pub mod Mixing
pub mod Compression
pub mod Words
pub mod Rows
