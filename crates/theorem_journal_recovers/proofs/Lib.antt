-- What a journal gives back, proved.
pub mod Places
pub mod Recovers
pub mod Archive
