-- Parts of a register's audit, and what answers say together.
pub mod Range
pub mod Part
pub mod Together
