-- Laws of the definitions in specs/: those that crates above cite are in Laws and Runs, the others serve the proofs of this crate.
pub mod Laws
pub mod Blocks
pub mod Keys
pub mod Runs
pub mod Filling
pub mod Output
pub mod Calls
