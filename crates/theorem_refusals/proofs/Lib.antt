-- Which failure an answer names, proved.
pub mod Checks
pub mod Audited
pub mod Compared
