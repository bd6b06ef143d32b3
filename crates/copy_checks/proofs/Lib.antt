-- Laws of copies, for the proofs of this crate and of the calls above it.
pub mod Least
pub mod Roots
pub mod Steps
pub mod Signed
pub mod Descents
