-- The laws of records, and what they say of the code.
pub mod Unique
pub mod Tests
pub mod From
pub mod Whole
pub mod Nine
pub mod Writing
