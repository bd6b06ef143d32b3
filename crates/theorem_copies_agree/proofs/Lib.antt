-- Laws of the agreements on copies.
pub mod Known
pub mod Agree
pub mod Accepted
pub mod ShortLookups
