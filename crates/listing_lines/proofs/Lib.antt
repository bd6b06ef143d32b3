pub mod Put
pub mod Entries
pub mod Grown
pub mod Stands
pub mod Chunks
pub mod Begun
pub mod Listed
pub mod Cut
