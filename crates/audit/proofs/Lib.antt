-- Laws of the audit.
pub mod Search
pub mod Capped
pub mod Audited
pub mod Entries
pub mod Bytes
pub mod Whole
pub mod Accepts
pub mod Only
pub mod Exact
