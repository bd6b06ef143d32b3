-- The calls on a journal together, proved.
pub mod Mixed
pub mod OneFile
pub mod Gives
pub mod Making
pub mod Sealed
pub mod Whole
