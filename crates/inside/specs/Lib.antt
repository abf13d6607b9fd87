pub mod Inside
pub mod Point
