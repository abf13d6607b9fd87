pub mod Says
pub mod Diff
pub mod Is
pub mod Ceil
pub mod Sum
pub mod Flag
pub mod Refusal
