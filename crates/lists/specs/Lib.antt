pub mod Appending
pub mod Releasing
pub mod Steps
pub mod Promises
pub mod Wider
pub mod Reach
