-- The in-order tree: indexes, depths, children, parents and roots.
pub mod Tree
pub mod Numbers
