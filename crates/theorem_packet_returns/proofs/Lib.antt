-- A released piece of a register comes back, proved.
pub mod Made
pub mod ComesBack
