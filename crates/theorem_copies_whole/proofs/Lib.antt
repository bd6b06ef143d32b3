-- A copy that holds every chunk, proved.
pub mod Nodes
pub mod Full
pub mod Packets
pub mod ChunkSpans
pub mod WayUp
pub mod Partly
pub mod MadePartly
pub mod TookPartly
pub mod HoldsEvery
pub mod Alike
pub mod Known
pub mod Releases
pub mod Handed
pub mod Takes
pub mod Whole
