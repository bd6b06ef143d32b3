-- What a call on a copy can depend on, as statements.
pub mod Theorems
pub mod Ways
