-- The making of a packet from a copy.
pub mod Making
