-- Laws of the search.
pub mod Cut
pub mod Steps
pub mod Follows
pub mod Answers
