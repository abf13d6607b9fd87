pub mod Touched
pub mod Ones
pub mod Inward
pub mod Mapped
