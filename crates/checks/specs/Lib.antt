-- The numbered checks of a call on a register, and of a list of chunks.
pub mod Checks
pub mod Lent
pub mod Lengths
pub mod Capped
