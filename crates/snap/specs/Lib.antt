pub mod Nearest
pub mod Scaled
pub mod Unit
pub mod Shapes
