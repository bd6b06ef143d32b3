-- The calls that write a register, and its root hash, over any hash function F.
pub mod Start
pub mod Append
pub mod Sign
pub mod RootHash
pub mod Conditions
pub mod Post
pub mod Inner
