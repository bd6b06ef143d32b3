-- Laws of the walk along two packets.
pub mod Up
pub mod Roots
pub mod Stands
pub mod Made
pub mod Tells
pub mod Climbs
pub mod Walks
pub mod Weak
