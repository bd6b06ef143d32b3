-- Laws of the root hash, of root hashes of earlier years and of the search on a copy.
pub mod Calls
