-- Laws of the needs, and that they are those of the appends.
pub mod Messages
pub mod Completed
pub mod Lists
pub mod Answers
pub mod Chain
pub mod Appends
pub mod AtBlake2b
pub mod Any
