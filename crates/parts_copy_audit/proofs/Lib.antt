-- Laws of the parts of a copy's audit.
pub mod Laws
