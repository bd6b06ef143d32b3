-- The calls on a journal together.
pub mod Whole
pub mod Making
