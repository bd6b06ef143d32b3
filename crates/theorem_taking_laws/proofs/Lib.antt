-- Laws of what a taking in leaves.
pub mod Distinct
pub mod Unknown
pub mod Given
pub mod Siblings
pub mod Roots
pub mod RowMembers
pub mod Ways
pub mod Brought
pub mod Made
pub mod Among
pub mod SameDescents
pub mod Halves
pub mod ReadsNear
pub mod Reaches
pub mod ChunksApart
pub mod Starts
