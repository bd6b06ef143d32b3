-- Laws of the checks, for the proofs of this crate and of the calls above it.
pub mod Judged
pub mod Later
pub mod Passed
pub mod Steps
pub mod Lengths
pub mod Capped
