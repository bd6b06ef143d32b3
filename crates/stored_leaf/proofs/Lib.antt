-- Laws of stored leaf entries.
pub mod Calls
pub mod Answers
