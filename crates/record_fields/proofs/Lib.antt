-- The laws of varints and fields, and what they say of the code.
pub mod Digits
pub mod Reading
pub mod Fields
pub mod Found
pub mod Unique
pub mod Put
pub mod Fronts
pub mod Placed
