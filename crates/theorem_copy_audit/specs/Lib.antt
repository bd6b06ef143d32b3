-- What the audit of a copy accepts.
pub mod Theorems
