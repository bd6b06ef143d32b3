-- Lists of bytes: parts, places, runs and big-endian numbers.
pub mod Lists
pub mod Numbers
pub mod Lowest
