-- Laws of a release on a copy.
pub mod Calls
