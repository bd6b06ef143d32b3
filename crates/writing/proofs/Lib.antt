-- Laws of the calls that write a register.
pub mod Orders
pub mod Written
pub mod Started
pub mod Entries
pub mod Climb
pub mod Made
pub mod Tree
pub mod Verdicts
pub mod Bits
pub mod AfterAppend
pub mod Signed
pub mod Lent
pub mod Climbed
pub mod Answers
pub mod Stored
