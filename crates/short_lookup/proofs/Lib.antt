-- Laws of the short way.
pub mod Walks
pub mod Calls
pub mod Answers
pub mod Same
pub mod Agree
pub mod Accepted
