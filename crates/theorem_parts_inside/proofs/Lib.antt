-- Where parts lie.
pub mod Parts
