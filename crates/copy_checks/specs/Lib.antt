-- A partial copy: what it is, what it knows, and its checks.
pub mod Copy
pub mod Descents
pub mod Least
pub mod Checks
pub mod Meaning
