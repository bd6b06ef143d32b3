-- A journal of a change of an archive, proved.
pub mod Lengths
pub mod Behind
pub mod Steps
pub mod Answers
