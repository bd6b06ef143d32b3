-- Laws of what the audit of a copy accepts.
pub mod Sound
pub mod HeldRead
pub mod Registers
pub mod Images
pub mod Audited
