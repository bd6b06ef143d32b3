-- Laws of parts.
pub mod Laws
pub mod ByTest
