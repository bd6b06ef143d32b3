-- Which failure an answer names, as statements.
pub mod Refusals
