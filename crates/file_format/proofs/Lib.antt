-- Laws of the files: of their images, of written entries, and of the roots by value.
pub mod Spans
pub mod Slots
pub mod Nodes
pub mod AllHeld
pub mod OfImage
pub mod ToImage
pub mod Held
pub mod Places
pub mod ByValue
pub mod Written
pub mod ImageBytes
pub mod Hashed
pub mod Shown
