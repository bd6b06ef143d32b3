-- No byte behind a used size is looked at, proved: a register and the same with each buffer cut to its used size get the same answers.
pub mod Cut
pub mod Lookups
pub mod Audits
pub mod Packets
pub mod Released
pub mod ShortLookups
pub mod Reading
pub mod Verdicts
pub mod Writing
pub mod UsedBytes
pub mod Records
pub mod Leaves
pub mod Ranges
pub mod Parts
