-- Laws of taking in a packet.
pub mod Entries
pub mod Paths
pub mod Brings
pub mod Places
pub mod Totals
pub mod Knowable
pub mod BroughtRows
pub mod LowestFound
pub mod Start
pub mod Contradicted
pub mod Stages
pub mod Written
