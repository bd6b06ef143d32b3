-- What parts give together.
pub mod Cover
pub mod Whole
