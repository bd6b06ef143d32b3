-- Parts of the comparing walk.
pub mod Part
