-- The scope's worked cases, marked [T].
pub mod Table
