-- Laws of stored leaf entries of a copy.
pub mod Calls
