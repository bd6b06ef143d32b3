-- Demand 2, proved: of one append and one stored signature, of a list, of a release, and whole; what follows of a chunk sequence; and of the calls.
pub mod Singles
pub mod Lists
pub mod Releases
pub mod Demand2
pub mod Corollaries
pub mod AtBlake2b
