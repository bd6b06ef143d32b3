-- Laws on the two ways that a call's answer goes.
pub mod Laws
pub mod Turns
pub mod Copied
pub mod Restored
