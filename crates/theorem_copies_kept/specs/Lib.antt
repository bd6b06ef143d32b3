-- What calls leave of a copy.
pub mod Theorems
