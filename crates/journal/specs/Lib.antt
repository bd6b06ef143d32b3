-- A journal of a change of an archive: its bytes, and reading it.
pub mod Ranges
pub mod Form
pub mod Places
pub mod Kinds
pub mod Found
pub mod Reading
pub mod Meaning
