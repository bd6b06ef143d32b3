-- What no call on a copy looks at, as a statement.
pub mod UsedBytes
pub mod Leaves
pub mod Behind
pub mod Parts
