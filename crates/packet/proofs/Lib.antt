-- Laws of packets.
pub mod Above
pub mod Sums
pub mod Shape
pub mod Climb
pub mod Rising
pub mod InTurn
pub mod Right
pub mod Rows
pub mod Makes
pub mod Pieces
pub mod Answers
pub mod Inside
pub mod Short
