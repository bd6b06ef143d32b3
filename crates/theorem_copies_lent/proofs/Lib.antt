-- Laws of a register that is lent as a copy.
pub mod Checked
pub mod Alike
