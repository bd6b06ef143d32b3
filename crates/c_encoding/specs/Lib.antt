-- What C is answered.
pub mod Number
pub mod Encoding
