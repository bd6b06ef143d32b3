-- A register that is lent as a copy.
pub mod Theorems
