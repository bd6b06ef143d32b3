-- Packets: made from a register, and checked against a root hash.
pub mod Packet
pub mod Check
pub mod Inner
pub mod Post
pub mod Theorems
