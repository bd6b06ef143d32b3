-- Copies that are made and grown.
pub mod Grown
pub mod KeptByCalls
pub mod Needed
