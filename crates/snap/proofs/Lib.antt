pub mod Sizes
pub mod OneNearest
pub mod Unit
pub mod Product
pub mod Whole
pub mod Sum
pub mod Limit
pub mod Shapes
