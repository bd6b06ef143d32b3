-- Laws of messages told apart, and of the comparing walk.
pub mod Local
pub mod Apart
pub mod RootMessages
pub mod Same
pub mod Whole
pub mod Walked
