pub mod Words
pub mod State
pub mod Sound
pub mod Lists
pub mod Opening
pub mod Written
pub mod Editions
