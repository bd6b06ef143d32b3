-- Laws of a packet that is made from a copy.
pub mod Calls
