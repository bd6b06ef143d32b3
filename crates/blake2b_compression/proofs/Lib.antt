-- Laws of the compression's definitions that the proofs of its functions cite.
pub mod Rotation
pub mod Steps
pub mod Whole
