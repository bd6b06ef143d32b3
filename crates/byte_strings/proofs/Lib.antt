-- Laws of truth values, parts, places, runs and big-endian numbers.
pub mod Bools
pub mod Tests
pub mod Lists
pub mod Numbers
pub mod Lowest
pub mod Members
pub mod Puts
