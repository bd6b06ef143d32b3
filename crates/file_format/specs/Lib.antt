-- The files of a register, as the scope defines them for a chunk sequence, over any hash function F.
pub mod Headers
pub mod Sizes
pub mod Messages
pub mod Entries
pub mod Slots
pub mod Images
pub mod Inner
pub mod Stored
pub mod RootsByValue
pub mod Belongs
