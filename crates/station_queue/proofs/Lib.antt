-- The laws behind the calls on a table, and what holds of every run of them.
pub mod Numbers
pub mod Turns
pub mod Calls
pub mod Runs
