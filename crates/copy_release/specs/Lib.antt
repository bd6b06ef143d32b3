-- The release on a copy.
pub mod Release
pub mod Post
