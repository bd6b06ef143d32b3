-- A piece that comes back to a register.
pub mod Returned
