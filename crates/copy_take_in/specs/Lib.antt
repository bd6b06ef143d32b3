-- Taking in a packet.
pub mod TakeIn
pub mod Inner
pub mod Post
