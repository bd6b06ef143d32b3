-- The laws of Nodes, and what they say of the code.
pub mod Listed
pub mod Keyed
pub mod Bounds
pub mod Five
pub mod Placed
pub mod Lying
