-- A released piece of a register comes back.
pub mod ComesBack
