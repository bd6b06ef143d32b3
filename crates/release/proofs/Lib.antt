-- Laws of a release.
pub mod Bits
pub mod Replaced
pub mod Calls
pub mod Answers
