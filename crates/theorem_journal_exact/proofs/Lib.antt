-- What reading a journal accepts, proved.
pub mod Test
pub mod Read
pub mod Walk
pub mod Exact
pub mod Made
pub mod Passes
pub mod Laid
pub mod Encoded
pub mod Unique
