-- Laws of the in-order tree, for the proofs of this crate and of those above it: coordinates, which entries are filled, runs of
-- values, what an append fills, the roots, which chunks they cover; and for the code, words, arrays of indexes and the loop
-- that gathers the roots.
pub mod Index
pub mod Filled
pub mod Runs
pub mod Appended
pub mod Roots
pub mod Cover
pub mod Words
pub mod Numbers
pub mod Gathered
