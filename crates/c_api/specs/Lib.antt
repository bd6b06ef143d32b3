-- What C is answered.
pub mod Encoding
pub mod Waiting
pub mod Metadata
pub mod Partial
pub mod Leaves
pub mod Version
