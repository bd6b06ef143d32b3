-- No byte behind a used size is looked at, proved: a copy and the same with each buffer cut to its used size get the same answers.
pub mod Cut
pub mod Descents
pub mod Calls
pub mod Audits
pub mod Short
pub mod Bits
pub mod Taking
pub mod Making
pub mod UsedBytes
pub mod Leaves
pub mod Parts
