-- The bitfield file: bits, tuples, the Index, and its image.
pub mod Bits
pub mod Index
pub mod Image
pub mod Append
pub mod Release
pub mod Known
pub mod Missing
pub mod Levels
