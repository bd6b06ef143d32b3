-- Laws of lookups and reads on a copy.
pub mod AsRegister
pub mod Calls
