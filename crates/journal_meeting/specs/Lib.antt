-- A file as it is, held against a journal.
pub mod Between
