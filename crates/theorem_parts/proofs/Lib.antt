-- Why parts that cover the files give what the whole call gives.
pub mod Least
pub mod Covered
pub mod Cut
pub mod Whole
