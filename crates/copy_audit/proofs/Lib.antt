-- Laws of a copy's audit.
pub mod Judged
pub mod Verdicts
