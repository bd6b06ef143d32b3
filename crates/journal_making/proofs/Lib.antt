-- Making a journal, proved.
pub mod Numbers
pub mod Puts
pub mod Answers
