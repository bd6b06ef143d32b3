-- What the calls answer, in the scope's own terms.
pub mod Verdict
pub mod Meaning
