-- What a serving answers and leaves.
pub mod Serving
