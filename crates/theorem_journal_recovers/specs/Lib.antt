-- What a stop can leave, and what writing a journal's ranges makes of it.
pub mod Recovers
pub mod Archive
