-- Making a journal.
pub mod Making
