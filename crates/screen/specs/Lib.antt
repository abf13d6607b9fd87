pub mod Screen
pub mod Rectangle
pub mod Held
