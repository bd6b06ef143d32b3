-- Laws of what calls leave of a copy.
pub mod Stay
pub mod Releases
pub mod Leaves
pub mod Kept
