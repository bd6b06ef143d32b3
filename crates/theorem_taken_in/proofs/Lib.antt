-- What a copy is that has taken in a packet, proved.
pub mod Bits
pub mod Roots
pub mod Rebuilt
pub mod Has
pub mod TakenIn
