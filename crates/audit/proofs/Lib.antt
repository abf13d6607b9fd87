pub mod Follow
pub mod Held
pub mod Reading
pub mod Passing
pub mod Whole
pub mod Answers
pub mod Poison
pub mod Empty
