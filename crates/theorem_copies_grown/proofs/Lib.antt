-- Copies that are made and grown are accepted.
pub mod Grows
pub mod Accepts
pub mod Entries
pub mod TakenEntries
pub mod KnownNow
pub mod ParentsNow
pub mod BytesNow
pub mod Takes
pub mod Releases
pub mod Begins
pub mod Grown
pub mod Calls
pub mod Needed
