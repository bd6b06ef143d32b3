-- Laws of the preview.
pub mod NewRoot
pub mod Answers
