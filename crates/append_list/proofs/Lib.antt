-- Laws of a list appended together.
pub mod Chunks
pub mod Once
pub mod Roots
pub mod Parts
pub mod Verdicts
pub mod Orders
pub mod Steps
pub mod Passes
pub mod One
pub mod Leaves
pub mod Answers
