-- What no call looks at, as a statement.
pub mod UsedBytes
pub mod Records
pub mod Leaves
pub mod Parts
