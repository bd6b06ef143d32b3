-- The customer's demand 3, as a statement.
pub mod Demand3
