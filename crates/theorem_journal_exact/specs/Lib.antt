-- What reading a journal accepts.
pub mod Exact
