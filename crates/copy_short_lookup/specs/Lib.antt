-- The short lookups and the short search on a copy.
pub mod Short
