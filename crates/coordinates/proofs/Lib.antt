-- Laws of grouping.
pub mod Words
pub mod Planes
pub mod Calls
pub mod Inverse
