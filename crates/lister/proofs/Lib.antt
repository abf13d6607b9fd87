pub mod Writing
pub mod Said
pub mod Little
pub mod Numerals
pub mod Lines
pub mod OneText
