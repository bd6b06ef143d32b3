-- Laws of the root hashes of earlier years.
pub mod Calls
pub mod First
pub mod Answers
