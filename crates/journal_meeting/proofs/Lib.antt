-- A file as it is, held against a journal, proved.
pub mod Strange
pub mod Ranges
pub mod Steps
