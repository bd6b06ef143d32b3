-- Laws of the parts of the comparing walk.
pub mod Laws
