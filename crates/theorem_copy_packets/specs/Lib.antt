-- Packets that are made from copies.
pub mod CopyPackets
