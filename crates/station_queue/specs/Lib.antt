-- Sixteen workstations that wait for one archive: the table of waiting reads.
pub mod Table
pub mod Words
pub mod Post
pub mod Runs
