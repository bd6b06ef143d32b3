-- Laws of making a copy.
pub mod Calls
