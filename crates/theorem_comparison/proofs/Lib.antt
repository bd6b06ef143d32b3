-- Demand 3, proved: the chunk side (messages, roots, the descent), the walk, and the demand with its corollaries; and of the calls.
pub mod Roots
pub mod Descent
pub mod Walk
pub mod Agree
pub mod Corollaries
pub mod Demand3
pub mod AtBlake2b
