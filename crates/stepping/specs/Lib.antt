pub mod Stepping
pub mod Row
pub mod Stepped
