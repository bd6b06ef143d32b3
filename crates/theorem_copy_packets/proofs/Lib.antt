-- Packets that are made from copies, proved.
pub mod Audited
pub mod HandsOn
