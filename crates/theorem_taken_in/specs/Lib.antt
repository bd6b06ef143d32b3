-- What a copy is that has taken in a packet.
pub mod TakenIn
