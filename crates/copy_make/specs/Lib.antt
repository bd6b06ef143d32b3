-- Making a partial copy.
pub mod Make
