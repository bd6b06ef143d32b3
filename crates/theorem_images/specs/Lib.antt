-- The customer's demand 2, as a statement.
pub mod Demand2
