-- Laws of the bitfield.
pub mod TreeFacts
pub mod Bits
pub mod Levels
pub mod Image
pub mod Append
pub mod Release
pub mod Beside
pub mod SetBits
pub mod StoredBits
