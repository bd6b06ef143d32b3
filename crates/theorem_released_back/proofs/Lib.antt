-- A piece that comes back to a register, proved.
pub mod Took
pub mod Replaced
pub mod Stays
pub mod Returned
