-- Parts of a copy's audit.
pub mod Part
