pub mod Told
pub mod Tables
pub mod BinList
pub mod Questions
pub mod Units
pub mod Overlaps
pub mod Frame
