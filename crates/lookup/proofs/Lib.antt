-- Laws of descents and of what lookups and reads answer.
pub mod Descents
pub mod Visits
pub mod Unknown
pub mod Steps
pub mod ReadOrder
pub mod Capped
pub mod Lookups
pub mod Answers
pub mod Calls
