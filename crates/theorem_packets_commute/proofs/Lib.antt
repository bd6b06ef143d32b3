-- Two packets that a copy takes in may come in any order, proved.
pub mod Clear
pub mod Turns
pub mod Chunks
pub mod AtBlake2b
