-- Two packets that a copy takes in may come in any order, as a statement.
pub mod Commute
