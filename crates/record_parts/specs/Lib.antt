-- The parts of records that are handed back.
pub mod Parts
pub mod Chosen
