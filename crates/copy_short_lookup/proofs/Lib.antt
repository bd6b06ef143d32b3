-- Laws of the short lookups on a copy.
pub mod Calls
