-- The preview of an append.
pub mod Preview
