-- No call but the audit looks at an unknown entry, proved.
pub mod Descents
pub mod Checks
pub mod Lookups
pub mod Roots
pub mod Packets
pub mod Short
pub mod Released
pub mod Taking
pub mod Leaves
pub mod Theorems
pub mod Ways
